-- docs/FORMAT.md, "Entries against an entry": the time and the payload length, on plain values.
use Rattle.std.specs.Prelude.{List, ◌++◌, Bool, false, ℕ, ltb}
use Rattle.codec.specs.Reader.{Reader, and_then, mapped}
use Rattle.compact_u64.specs.Number.{min_tag, number_bytes, read_number}
use Rattle.grouping.specs.declared.RangeEnd.TheVariants.{Closed}
use Rattle.time_distance.specs.Distance.{distance, read_from}
use Rattle.entry_numbers.specs.declared.EntryHeader.{EntryHeader}
use Rattle.entry_numbers.specs.declared.Numbers.{Numbers}
use Rattle.entry_numbers.specs.Header.{time_tag_width, length_tag_width}

-- ---- writing: the difference from the reference's time r, then the payload length. A time is added only if it is later
unfoldable pub header_of : Bool → Bool → ℕ → ℕ → ℕ → EntryHeader
header_of namespaceWritten subspaceWritten r time size = record {
  namespace_written = namespaceWritten;
  subspace_written = subspaceWritten;
  time_added = ltb r time;
  time_tag = min_tag time_tag_width (distance time r);
  length_tag = min_tag length_tag_width size;
}

abbrev pub numbers_bytes : ℕ → ℕ → ℕ → List ℕ
numbers_bytes r time size = number_bytes time_tag_width (distance time r) ++ number_bytes length_tag_width size

-- ---- reading: a difference that is added may be zero
abbrev pub numbers_from : ℕ → ℕ → Numbers
numbers_from time size = record { timestamp = time; payload_length = size }

unfoldable pub read_numbers : ℕ → EntryHeader → Reader Numbers
read_numbers r h =
    and_then (read_from time_tag_width (Closed r) h.time_added h.time_tag) (λ time.
    mapped (numbers_from time) (
    read_number false length_tag_width h.length_tag))
