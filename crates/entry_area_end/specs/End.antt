-- docs/FORMAT.md, "Entries": the fields after the path, on plain values.
use Rattle.std.specs.Prelude.{List, ◌++◌, Bool, ℕ}
use Rattle.codec.specs.Reader.{Reader, some_bytes, and_then, mapped}
use Rattle.compact_u64.specs.Number.{min_tag, number_bytes, read_number}
use Rattle.grouping.specs.declared.TimeRange.{TimeRange}
use Rattle.time_relative.specs.Difference.{difference_of, read_included}
use Rattle.entry_area_end.specs.declared.EntryAreaHeader.{EntryAreaHeader}
use Rattle.entry_area_end.specs.declared.End.{End}
use Rattle.entry_area_end.specs.Header.{time_tag_width, length_tag_width}

-- ---- writing: the time's difference, the payload length, the digest
unfoldable pub header_of : Bool → TimeRange → ℕ → ℕ → EntryAreaHeader
header_of id_written r time size = record {
  id_written = id_written;
  time_added = (difference_of r time).added;
  time_tag = min_tag time_tag_width (difference_of r time).difference;
  length_tag = min_tag length_tag_width size;
  spare = 0;
}

abbrev pub end_of : TimeRange → End → List ℕ
end_of r e = number_bytes time_tag_width (difference_of r e.timestamp).difference ++ (number_bytes length_tag_width e.payload_length ++ e.payload_digest)

-- ---- reading
abbrev pub end_from : ℕ → ℕ → List ℕ → End
end_from time size digest = record { timestamp = time; payload_length = size; payload_digest = digest }

unfoldable pub read_after_path : Bool → TimeRange → EntryAreaHeader → Reader End
read_after_path canonic r h =
    and_then (read_included canonic time_tag_width r h.time_added h.time_tag) (λ time.
    and_then (read_number canonic length_tag_width h.length_tag) (λ size.
    mapped (end_from time size) (
    some_bytes 32)))
