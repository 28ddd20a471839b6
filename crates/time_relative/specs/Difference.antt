-- docs/FORMAT.md, "Times": a time against a range is the smaller of the differences from the range's start and to its end, an open end counting as top; a tie adds.
use Rattle.std.specs.Prelude.{Bool, true, false, cond, ◌&&◌, not, ℕ, ◌+◌, ◌-◌, leb, eqb}
use Rattle.codec.specs.Reader.{Reader, checked, mapped}
use Rattle.compact_u64.specs.Number.{read_number}
use Rattle.grouping.specs.declared.RangeEnd.{RangeEnd}
use Rattle.grouping.specs.declared.RangeEnd.TheVariants.{Closed, Open}
use Rattle.grouping.specs.declared.TimeRange.{TimeRange}
use Rattle.grouping.specs.Range.{top, end_value, bounds, includes_time}
use Rattle.time_relative.specs.declared.TimeDifference.{TimeDifference}

unfoldable pub difference_of : TimeRange → ℕ → TimeDifference
difference_of r x =
    cond (leb (x - r.start) (end_value r.end - x))
    (record { added = true; difference = x - r.start })
    (record { added = false; difference = end_value r.end - x })

-- an open end has no difference
abbrev pub end_difference : TimeRange → RangeEnd → TimeDifference
end_difference r (Closed x) = difference_of r x
end_difference r Open = record { added = false; difference = 0 }

-- ---- reading: the tag has w bits

-- the time that a difference says
unfoldable pub time_at : TimeRange → Bool → ℕ → ℕ
time_at r added d = cond added (r.start + d) (end_value r.end - d)

-- the time lies in the range, and d is its difference; strictly, a tie adds
unfoldable pub is_nearest : Bool → TimeRange → Bool → ℕ → ℕ → Bool
is_nearest canonic r added d x =
    bounds r x && (eqb (difference_of r x).difference d && cond canonic (cond (difference_of r x).added added (not added)) true)

unfoldable pub read_time : Bool → ℕ → TimeRange → Bool → ℕ → Reader ℕ
read_time canonic w r added tag =
    mapped (time_at r added) (
    checked (λ d. is_nearest canonic r added d (time_at r added d)) (
    read_number canonic w tag))

-- ---- reading a time that the range includes, by either of its differences

-- the largest difference that says a time at all
abbrev pub reach_of : TimeRange → Bool → ℕ
reach_of r added = cond added (top - r.start) (end_value r.end)

-- d says a time x that the range includes; strictly, it is the smaller difference, and a tie adds
unfoldable pub is_included : Bool → TimeRange → Bool → ℕ → ℕ → Bool
is_included canonic r added d x =
    leb d (reach_of r added) && (includes_time r x && cond canonic (cond (difference_of r x).added added (not added)) true)

unfoldable pub read_included : Bool → ℕ → TimeRange → Bool → ℕ → Reader ℕ
read_included canonic w r added tag =
    mapped (time_at r added) (
    checked (λ d. is_included canonic r added d (time_at r added d)) (
    read_number canonic w tag))
