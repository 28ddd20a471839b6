-- docs/FORMAT.md, "Entries against an entry": the header byte.
use Rattle.std.specs.Prelude.{ℕ, ◌+◌}
use Rattle.codec.specs.Header.{bits_at, flag, placed, bit}
use Rattle.entry_numbers.specs.declared.EntryHeader.{EntryHeader}

-- how many bytes the header takes
abbrev pub header_length : ℕ
header_length = 1

-- the widths of the tags
abbrev pub time_tag_width : ℕ
time_tag_width = 2

abbrev pub length_tag_width : ℕ
length_tag_width = 3

-- where each part stands, told by the widths of the parts before it
abbrev pub namespace_written_at : ℕ
namespace_written_at = 0

abbrev pub subspace_written_at : ℕ
subspace_written_at = 1

abbrev pub time_added_at : ℕ
time_added_at = 2

abbrev pub time_tag_at : ℕ
time_tag_at = 3

abbrev pub length_tag_at : ℕ
length_tag_at = 3 + time_tag_width

abbrev pub unpack_header : ℕ → EntryHeader
unpack_header b = record {
  namespace_written = flag namespace_written_at b;
  subspace_written = flag subspace_written_at b;
  time_added = flag time_added_at b;
  time_tag = bits_at time_tag_at time_tag_width b;
  length_tag = bits_at length_tag_at length_tag_width b;
}

abbrev pub pack_header : EntryHeader → ℕ
pack_header h =
    placed namespace_written_at 1 (bit h.namespace_written)
    + placed subspace_written_at 1 (bit h.subspace_written)
    + placed time_added_at 1 (bit h.time_added)
    + placed time_tag_at time_tag_width h.time_tag
    + placed length_tag_at length_tag_width h.length_tag
