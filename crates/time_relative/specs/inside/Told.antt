-- Reading a difference and the time that it says, where both pass a test.
use Rattle.std.specs.Prelude.{◌≡◌, Bool, true, cond, ◌&&◌, not, ℕ, ◌<◌, ◌^◌, leb}
use Rattle.codec.specs.Reader.{Reader, checked, mapped}
use Rattle.compact_u64.specs.Number.{read_number}
use Rattle.grouping.specs.declared.TimeRange.{TimeRange}
use Rattle.grouping.specs.Range.{includes_time}
use Rattle.time_relative.specs.Difference.{difference_of, time_at, reach_of}

-- the calls of a closure answer the test t of a difference and a time
abbrev pub Tests : (ℕ → ℕ → Bool → Type 0) → (ℕ → ℕ → Bool) → Type 0
Tests post t = (d x : ℕ) (b : Bool) → d < 2 ^ 64 → x < 2 ^ 64 → post d x b → b ≡ t d x

-- the range includes the time x; strictly, it is rightly added
abbrev pub includes_told : Bool → TimeRange → Bool → ℕ → Bool
includes_told canonic r added x = includes_time r x && cond canonic (cond (difference_of r x).added added (not added)) true

abbrev pub read_told : (ℕ → ℕ → Bool) → Bool → ℕ → TimeRange → Bool → ℕ → Reader ℕ
read_told t canonic w r added tag =
    mapped (time_at r added) (
    checked (λ d. leb d (reach_of r added) && t d (time_at r added d)) (
    read_number canonic w tag))
