-- docs/FORMAT.md, "3d ranges": the times of a 3d range against those of another.
use Rattle.std.specs.Prelude.{List, [], ◌++◌, Bool, ℕ}
use Rattle.codec.specs.Reader.{Reader, give, and_then, mapped, choose}
use Rattle.compact_u64.specs.Number.{min_tag, number_bytes}
use Rattle.grouping.specs.declared.RangeEnd.{RangeEnd}
use Rattle.grouping.specs.declared.RangeEnd.TheVariants.{Closed, Open}
use Rattle.grouping.specs.declared.TimeRange.{TimeRange}
use Rattle.grouping.specs.Range.{times_from}
use Rattle.time_distance.specs.Distance.{nearest_of, end_nearest, side_of, read_from}
use Rattle.range_times.specs.declared.RangeTimesHeader.{RangeTimesHeader}
use Rattle.range_times.specs.Header.{start_tag_width, end_tag_width}

-- ---- writing: the start's difference, then the end's. For an open end flags and tag are zero, and no byte is written
unfoldable pub header_of : TimeRange → TimeRange → RangeTimesHeader
header_of r t = record {
  start_from_start = (nearest_of r t.start).from_start;
  start_added = (nearest_of r t.start).added;
  start_tag = min_tag start_tag_width (nearest_of r t.start).difference;
  end_from_start = (end_nearest r t.end).from_start;
  end_added = (end_nearest r t.end).added;
  end_tag = min_tag end_tag_width (end_nearest r t.end).difference;
}

abbrev pub end_bytes : TimeRange → RangeEnd → List ℕ
end_bytes r (Closed x) = number_bytes end_tag_width (nearest_of r x).difference
end_bytes r Open = []

unfoldable pub times_bytes : TimeRange → TimeRange → List ℕ
times_bytes r t = number_bytes start_tag_width (nearest_of r t.start).difference ++ end_bytes r t.end

-- ---- reading: a flag that names an open end is refused once the difference is read. Flags and tag of an open end are not looked at
unfoldable pub read_end : TimeRange → Bool → RangeTimesHeader → Reader RangeEnd
read_end r end_open h =
    choose end_open
    (give Open)
    (mapped Closed (read_from end_tag_width (side_of r h.end_from_start) h.end_added h.end_tag))

unfoldable pub read_times : TimeRange → Bool → RangeTimesHeader → Reader TimeRange
read_times r end_open h =
    and_then (read_from start_tag_width (side_of r h.start_from_start) h.start_added h.start_tag) (λ start.
    mapped (times_from start) (
    read_end r end_open h))
