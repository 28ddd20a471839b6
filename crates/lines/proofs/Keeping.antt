-- Laws of bytes moved to the front of a buffer, and of what is kept.
use Rattle.codec.proofs.Prelude.{◌≡◌, refl, sym, ap, ◌∙◌, List, [], Bool, true, false, cond, ℕ, ◌+◌, ◌-◌, ◌≤◌, ◌<◌, min, arith, leb, le-leb, lt-leb, length, take, drop, length-drop, length-take-le, take-take, take-nil}
use Rattle.std.specs.List.{copy_within}
use Rattle.std.proofs.lemmas.List.{take_min, drop-take}
use Rattle.codec.specs.Format.{over}
use Rattle.lines.specs.Lines.{whole_lines, span}
use Rattle.lines.specs.Stream.{kept, kept_after}

-- ---- what is kept
module _ (limit at end : ℕ) (l : List ℕ) where
  pub kept_out : length l < end → kept limit at end l ≡ []
  unfolding kept
  kept_out h = rw (lt-leb _ _ h)

  pub kept_none : end < at → kept limit at end l ≡ []
  unfolding kept
  kept_none h =
      let e : end - at ≡ 0 = omega arith in
      rw (e, take-nil) (by_cases (leb end (length l)))
    where
      by_cases : (b : Bool) → cond {A = List ℕ} b [] [] ≡ []
      by_cases true = refl
      by_cases false = refl

  pub kept_is : end ≤ length l → at ≤ end → kept limit at end l ≡ take (min limit (end - at)) (drop at l)
  unfolding kept
  kept_is h g =
      let part = take (end - at) (drop at l) in
      let long : length part ≡ end - at = length-take-le (end - at) (drop at l) (rw length-drop (omega arith)) in
      rw (le-leb _ _ h) (sym (take_min limit part) ∙ rw long (take-take (min limit (end - at)) (end - at) (drop at l) (omega arith)))

  pub kept_long : end ≤ length l → at ≤ end → length (kept limit at end l) ≡ min limit (end - at)
  kept_long h g = rw (kept_is h g) (length-take-le (min limit (end - at)) (drop at l) (rw length-drop (omega arith)))

  -- what the move leaves
  pub kept_moved : end ≤ length l → at ≤ end → over (kept limit at end l) l ≡ copy_within l at (at + min limit (end - at)) 0
  kept_moved h g =
      let p : at + min limit (end - at) - at ≡ min limit (end - at) = omega arith in
      let z : 0 + min limit (end - at) ≡ min limit (end - at) = omega arith in
      rw (kept_long h g, kept_is h g, p, z)

pub ruleset keeping = (kept_out, kept_none, kept_moved, kept_long)

-- ---- what is kept once the whole lines of the first `end` bytes are answered
pub kept_after_lem : (limit at end : ℕ) (b : List ℕ) → at ≡ span (whole_lines (take end b)) → at ≤ length (take end b) → end ≤ length b
    → kept limit at end b ≡ kept_after limit (take end b)
unfolding kept kept_after
kept_after_lem limit at end b e h k =
    let whole : at + (end - at) ≡ end = omega (arith, length-take-le end b k) in
    rw (le-leb _ _ k, ← e) (ap (take limit) (rw whole at (sym (drop-take at (end - at) b))))
