-- docs/FORMAT.md, "Areas": ranges of times. An open end lies above every closed one in comparisons, and counts as top in differences.
use Rattle.std.specs.Prelude.{Bool, true, false, ◌&&◌, ℕ, ◌-◌, ◌^◌, ◌≤◌, leb, ltb}
use Rattle.grouping.specs.declared.RangeEnd.{RangeEnd}
use Rattle.grouping.specs.declared.RangeEnd.TheVariants.{Closed, Open}
use Rattle.grouping.specs.declared.TimeRange.{TimeRange}

abbrev pub top : ℕ
top = 2 ^ 64 - 1

abbrev pub is_open : RangeEnd → Bool
is_open (Closed x) = false
is_open Open = true

abbrev pub times_from : ℕ → RangeEnd → TimeRange
times_from start end = record { start = start; end = end }

-- ---- in differences
abbrev pub end_value : RangeEnd → ℕ
end_value (Closed x) = x
end_value Open = top

-- between start and end, both counted in
unfoldable pub bounds : TimeRange → ℕ → Bool
bounds r x = leb r.start x && leb x (end_value r.end)

-- ---- in comparisons
abbrev pub end_at_most : RangeEnd → RangeEnd → Bool
end_at_most (Closed x) (Closed y) = leb x y
end_at_most (Closed x) Open = true
end_at_most Open (Closed y) = false
end_at_most Open Open = true

abbrev pub end_after : RangeEnd → ℕ → Bool
end_after (Closed y) x = ltb x y
end_after Open x = true

unfoldable pub includes_time : TimeRange → ℕ → Bool
includes_time r x = leb r.start x && end_after r.end x

unfoldable pub includes_range : TimeRange → TimeRange → Bool
includes_range r t = leb r.start t.start && end_at_most t.end r.end

-- ---- what the language says of a range
pub record TypedRange (t : TimeRange) : Type 0 where
  pub start : t.start ≤ top
  pub end : end_value t.end ≤ top
