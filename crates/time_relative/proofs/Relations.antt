-- What the laws say: the bytes e after the flag and the tag of w bits are what writing the time x gives.
use mathlib.Core.Path.{◌≡◌}
use mathlib.Core.List.{List}
use mathlib.Core.Bool.{Bool, true}
use Prim.Native.Nat.{ℕ, ◌≤◌}
use Rattle.compact_u64.specs.Number.{min_tag, number_bytes}
use Rattle.grouping.specs.declared.TimeRange.{TimeRange}
use Rattle.grouping.specs.Range.{top, bounds, includes_time}
use Rattle.time_relative.specs.Difference.{difference_of}

pub record TimeAs (w : ℕ) (r : TimeRange) (added : Bool) (tag x : ℕ) (e : List ℕ) : Type 0 where
  pub inside : bounds r x ≡ true
  pub near : (difference_of r x).added ≡ added
  pub tagged : min_tag w (difference_of r x).difference ≡ tag
  pub bytes : e ≡ number_bytes w (difference_of r x).difference

-- the same of a time that the range includes
pub record IncludedAs (w : ℕ) (r : TimeRange) (added : Bool) (tag x : ℕ) (e : List ℕ) : Type 0 where
  pub small : x ≤ top
  pub included : includes_time r x ≡ true
  pub near : (difference_of r x).added ≡ added
  pub tagged : min_tag w (difference_of r x).difference ≡ tag
  pub bytes : e ≡ number_bytes w (difference_of r x).difference
