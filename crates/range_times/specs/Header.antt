-- docs/FORMAT.md, "3d ranges": the second header byte, that of the times.
use Rattle.std.specs.Prelude.{ℕ, ◌+◌}
use Rattle.codec.specs.Header.{bits_at, flag, placed, bit}
use Rattle.range_times.specs.declared.RangeTimesHeader.{RangeTimesHeader}

-- the widths of the tags
abbrev pub start_tag_width : ℕ
start_tag_width = 2

abbrev pub end_tag_width : ℕ
end_tag_width = 2

-- where each part stands, told by the widths of the parts before it
abbrev pub start_from_start_at : ℕ
start_from_start_at = 0

abbrev pub start_added_at : ℕ
start_added_at = 1

abbrev pub start_tag_at : ℕ
start_tag_at = 2

abbrev pub end_from_start_at : ℕ
end_from_start_at = 2 + start_tag_width

abbrev pub end_added_at : ℕ
end_added_at = 3 + start_tag_width

abbrev pub end_tag_at : ℕ
end_tag_at = 4 + start_tag_width

abbrev pub unpack_header : ℕ → RangeTimesHeader
unpack_header b = record {
  start_from_start = flag start_from_start_at b;
  start_added = flag start_added_at b;
  start_tag = bits_at start_tag_at start_tag_width b;
  end_from_start = flag end_from_start_at b;
  end_added = flag end_added_at b;
  end_tag = bits_at end_tag_at end_tag_width b;
}

abbrev pub pack_header : RangeTimesHeader → ℕ
pack_header h =
    placed start_from_start_at 1 (bit h.start_from_start)
    + placed start_added_at 1 (bit h.start_added)
    + placed start_tag_at start_tag_width h.start_tag
    + placed end_from_start_at 1 (bit h.end_from_start)
    + placed end_added_at 1 (bit h.end_added)
    + placed end_tag_at end_tag_width h.end_tag
