-- docs/FORMAT.md, "3d ranges": ranges, and a 3d range on plain values.
use Rattle.std.specs.Prelude.{Option, Some, None, List, Bool, true, false, ◌&&◌, ℕ}
use Rattle.grouping.specs.declared.TimeRange.{TimeRange}
use Rattle.range_3d.specs.declared.Range.{Range}

pub record Range3dValue : Type 0 where
  pub subspaces : Range (List ℕ)
  pub paths : Range (List (List ℕ))
  pub times : TimeRange

-- none is open
abbrev pub open_end : {A : Type 0} → Option A → Bool
open_end None = true
open_end (Some a) = false

-- ---- start and end under another name, and a test of both
abbrev pub end_named : {A B : Type 0} → (A → B) → Option A → Option B
end_named f None = None
end_named f (Some a) = Some (f a)

abbrev pub range_named : {A B : Type 0} → (A → B) → Range A → Range B
range_named f r = record { start = f r.start; end = end_named f r.end }

abbrev pub end_passes : {A : Type 0} → (A → Bool) → Option A → Bool
end_passes t None = true
end_passes t (Some a) = t a

abbrev pub both_pass : {A : Type 0} → (A → Bool) → Range A → Bool
both_pass t r = t r.start && end_passes t r.end

-- a fact of the start, and of the end where there is one
abbrev pub OnEnd : {A : Type 0} → (A → Type 0) → Option A → Type 0
OnEnd P None = Unit {0}
OnEnd P (Some a) = P a

pub record Both {A : Type 0} (P : A → Type 0) (r : Range A) : Type 0 where
  pub start : P r.start
  pub end : OnEnd P r.end
