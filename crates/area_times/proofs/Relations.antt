-- What the laws of times say: the bytes e are what writing an end, or both times, gives against r under a header h.
use mathlib.Core.Path.{◌≡◌}
use mathlib.Core.List.{List}
use mathlib.Core.Bool.{Bool, true, false}
use Prim.Native.Nat.{ℕ}
use Rattle.compact_u64.specs.Number.{min_tag}
use Rattle.grouping.specs.declared.RangeEnd.{RangeEnd}
use Rattle.grouping.specs.declared.TimeRange.{TimeRange}
use Rattle.grouping.specs.Range.{end_value, is_open, bounds, includes_range}
use Rattle.time_relative.specs.Difference.{difference_of, end_difference}
use Rattle.area_times.specs.declared.AreaHeader.{AreaHeader}
use Rattle.area_times.specs.Header.{start_tag_width, end_tag_width}
use Rattle.area_times.specs.Times.{end_bytes, times_bytes}

-- that an open end lies in the range, `includes_range` says
pub record EndAs (r : TimeRange) (opens added : Bool) (tag : ℕ) (end : RangeEnd) (e : List ℕ) : Type 0 where
  pub open_is : is_open end ≡ opens
  pub near : (end_difference r end).added ≡ added
  pub tagged : min_tag end_tag_width (end_difference r end).difference ≡ tag
  pub inside : opens ≡ false → bounds r (end_value end) ≡ true
  pub bytes : e ≡ end_bytes r end

pub record TimesAs (r : TimeRange) (h : AreaHeader) (t : TimeRange) (e : List ℕ) : Type 0 where
  pub start_added : (difference_of r t.start).added ≡ h.start_added
  pub start_tag : min_tag start_tag_width (difference_of r t.start).difference ≡ h.start_tag
  pub end_open : is_open t.end ≡ h.end_open
  pub end_added : (end_difference r t.end).added ≡ h.end_added
  pub end_tag : min_tag end_tag_width (end_difference r t.end).difference ≡ h.end_tag
  pub included : includes_range r t ≡ true
  pub start : bounds r t.start ≡ true
  pub end : bounds r (end_value t.end) ≡ true
  pub bytes : e ≡ times_bytes r t
