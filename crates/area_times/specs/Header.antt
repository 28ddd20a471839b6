-- docs/FORMAT.md, "Areas": the header byte of an area against an area.
use Rattle.std.specs.Prelude.{Bool, ◌&&◌, ◌||◌, not, ℕ, ◌+◌, eqb}
use Rattle.codec.specs.Header.{bits_at, flag, placed, bit}
use Rattle.area_times.specs.declared.AreaHeader.{AreaHeader}

-- how many bytes the header takes
abbrev pub header_length : ℕ
header_length = 1

-- the widths of the tags
abbrev pub start_tag_width : ℕ
start_tag_width = 2

abbrev pub end_tag_width : ℕ
end_tag_width = 2

-- where each part stands, told by the widths of the parts before it
abbrev pub id_written_at : ℕ
id_written_at = 0

abbrev pub end_open_at : ℕ
end_open_at = 1

abbrev pub start_added_at : ℕ
start_added_at = 2

abbrev pub end_added_at : ℕ
end_added_at = 3

abbrev pub start_tag_at : ℕ
start_tag_at = 4

abbrev pub end_tag_at : ℕ
end_tag_at = 4 + start_tag_width

abbrev pub unpack_header : ℕ → AreaHeader
unpack_header b = record {
  id_written = flag id_written_at b;
  end_open = flag end_open_at b;
  start_added = flag start_added_at b;
  end_added = flag end_added_at b;
  start_tag = bits_at start_tag_at start_tag_width b;
  end_tag = bits_at end_tag_at end_tag_width b;
}

abbrev pub pack_header : AreaHeader → ℕ
pack_header h =
    placed id_written_at 1 (bit h.id_written)
    + placed end_open_at 1 (bit h.end_open)
    + placed start_added_at 1 (bit h.start_added)
    + placed end_added_at 1 (bit h.end_added)
    + placed start_tag_at start_tag_width h.start_tag
    + placed end_tag_at end_tag_width h.end_tag

-- an open end has no difference; bits that speak of one are spare
unfoldable pub spare_bits : AreaHeader → Bool
spare_bits h = h.end_open && (h.end_added || not (eqb h.end_tag 0))
