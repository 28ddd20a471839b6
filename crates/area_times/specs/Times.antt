-- docs/FORMAT.md, "Areas": the times of an area against those of another.
use Rattle.std.specs.Prelude.{List, [], ◌++◌, Bool, not, ℕ}
use Rattle.codec.specs.Reader.{Reader, give, and_then, guard, checked, mapped, choose}
use Rattle.compact_u64.specs.Number.{min_tag, number_bytes}
use Rattle.grouping.specs.declared.RangeEnd.{RangeEnd}
use Rattle.grouping.specs.declared.RangeEnd.TheVariants.{Closed, Open}
use Rattle.grouping.specs.declared.TimeRange.{TimeRange}
use Rattle.grouping.specs.Range.{times_from, is_open, includes_range}
use Rattle.time_relative.specs.Difference.{difference_of, end_difference, read_time}
use Rattle.area_times.specs.declared.AreaHeader.{AreaHeader}
use Rattle.area_times.specs.Header.{start_tag_width, end_tag_width}

-- ---- writing: the start's difference, then the end's
unfoldable pub header_of : Bool → TimeRange → TimeRange → AreaHeader
header_of id_written r t = record {
  id_written = id_written;
  end_open = is_open t.end;
  start_added = (difference_of r t.start).added;
  end_added = (end_difference r t.end).added;
  start_tag = min_tag start_tag_width (difference_of r t.start).difference;
  end_tag = min_tag end_tag_width (end_difference r t.end).difference;
}

-- a time takes the bytes of its difference, an open end none
abbrev pub end_bytes : TimeRange → RangeEnd → List ℕ
end_bytes r (Closed x) = number_bytes end_tag_width (difference_of r x).difference
end_bytes r Open = []

unfoldable pub times_bytes : TimeRange → TimeRange → List ℕ
times_bytes r t = number_bytes start_tag_width (difference_of r t.start).difference ++ end_bytes r t.end

-- ---- reading: an open end has no difference to add
unfoldable pub read_end : Bool → TimeRange → AreaHeader → Reader RangeEnd
read_end canonic r h =
    choose h.end_open
    (guard (not h.end_added) (give Open))
    (mapped Closed (read_time canonic end_tag_width r h.end_added h.end_tag))

unfoldable pub read_times : Bool → TimeRange → AreaHeader → Reader TimeRange
read_times canonic r h =
    checked (includes_range r) (
    and_then (read_time canonic start_tag_width r h.start_added h.start_tag) (λ start.
    mapped (times_from start) (
    read_end canonic r h)))
