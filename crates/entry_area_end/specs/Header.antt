-- docs/FORMAT.md, "Entries": the header byte of an entry in an area.
use Rattle.std.specs.Prelude.{ℕ, ◌+◌}
use Rattle.codec.specs.Header.{bits_at, flag, placed, bit}
use Rattle.entry_area_end.specs.declared.EntryAreaHeader.{EntryAreaHeader}

-- how many bytes the header takes
abbrev pub header_length : ℕ
header_length = 1

-- the widths of the tags, and of the bits that must be zero
abbrev pub time_tag_width : ℕ
time_tag_width = 2

abbrev pub length_tag_width : ℕ
length_tag_width = 2

abbrev pub spare_width : ℕ
spare_width = 2

-- where each part stands, told by the widths of the parts before it
abbrev pub id_written_at : ℕ
id_written_at = 0

abbrev pub time_added_at : ℕ
time_added_at = 1

abbrev pub time_tag_at : ℕ
time_tag_at = 2

abbrev pub length_tag_at : ℕ
length_tag_at = 2 + time_tag_width

abbrev pub spare_at : ℕ
spare_at = 2 + time_tag_width + length_tag_width

abbrev pub unpack_header : ℕ → EntryAreaHeader
unpack_header b = record {
  id_written = flag id_written_at b;
  time_added = flag time_added_at b;
  time_tag = bits_at time_tag_at time_tag_width b;
  length_tag = bits_at length_tag_at length_tag_width b;
  spare = bits_at spare_at spare_width b;
}

abbrev pub pack_header : EntryAreaHeader → ℕ
pack_header h =
    placed id_written_at 1 (bit h.id_written)
    + placed time_added_at 1 (bit h.time_added)
    + placed time_tag_at time_tag_width h.time_tag
    + placed length_tag_at length_tag_width h.length_tag
    + placed spare_at spare_width h.spare
