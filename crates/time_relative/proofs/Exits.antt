-- What the reader's definition answers by the test of the code.
use Rattle.codec.proofs.Prelude.{◌≡◌, refl, sym, ap, List, Bool, true, false, ◌&&◌, ℕ, ◌+◌, ◌-◌, ◌<◌, arith, leb, le-leb, lt-leb, leb-false, ne_eqb}
use Rattle.grouping.specs.declared.TimeRange.{TimeRange}
use Rattle.grouping.specs.Range.{TypedRange, end_value, bounds}
use Rattle.time_relative.specs.Difference.{difference_of, time_at, is_nearest, read_time, reach_of}
use Rattle.time_relative.specs.inside.Told.{read_told}

-- ---- whether a difference is one that writing gives
module _ (canonic : Bool) (r : TimeRange) (added : Bool) (d x : ℕ) where
  pub outside : bounds r x ≡ false → is_nearest canonic r added d x ≡ false
  unfolding is_nearest
  outside e = rw e

  module _ (b : bounds r x ≡ true) where
    pub farther : ((difference_of r x).difference ≡ d → ⊥) → is_nearest canonic r added d x ≡ false
    unfolding is_nearest
    farther n = rw (b, ne_eqb _ d n)

-- a difference that says no time
pub past_reach : (canonic : Bool) (r : TimeRange) → TypedRange r → (added : Bool) (d : ℕ) → reach_of r added < d → is_nearest canonic r added d (time_at r added d) ≡ false
unfolding bounds time_at difference_of
past_reach canonic r t true d h =
    outside canonic r true d (time_at r true d) (rw (le-leb r.start (r.start + d) (omega arith), lt-leb (r.start + d) (end_value r.end) (omega (arith, h, t.start, t.end))))
past_reach canonic r t false d h = go (bounds r (time_at r false d)) refl
  where
    nought : time_at r false d ≡ 0
    nought = omega (arith, h)

    at_nought : (difference_of r 0).difference ≡ 0
    at_nought =
        let z : 0 - r.start ≡ 0 = omega arith in
        rw (z, le-leb 0 (end_value r.end - 0) (omega arith))

    go : (b : Bool) → bounds r (time_at r false d) ≡ b → is_nearest canonic r false d (time_at r false d) ≡ false
    go true e = farther canonic r false d (time_at r false d) e (λ q. omega (arith, h, ap (λ (x : ℕ). (difference_of r x).difference) nought, at_nought, q))
    go false e = outside canonic r false d (time_at r false d) e

-- the test of the nearest asks what can be told
module _ (canonic : Bool) (r : TimeRange) (t : TypedRange r) (added : Bool) where
  reached : (d : ℕ) → (leb d (reach_of r added) && is_nearest canonic r added d (time_at r added d)) ≡ is_nearest canonic r added d (time_at r added d)
  reached d = go (leb d (reach_of r added)) refl
    where
      go : (b : Bool) → leb d (reach_of r added) ≡ b → (b && is_nearest canonic r added d (time_at r added d)) ≡ is_nearest canonic r added d (time_at r added d)
      go true e = refl
      go false e = sym (past_reach canonic r t added d (leb-false d (reach_of r added) e))

  pub nearest_told : (w tag : ℕ) (s : List ℕ) → read_told (is_nearest canonic r added) canonic w r added tag s ≡ read_time canonic w r added tag s
  unfolding read_time
  nearest_told w tag s = simp reached
