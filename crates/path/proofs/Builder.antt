-- Room for a component.
use Rattle.codec.proofs.Prelude.{◌≡◌, refl, sym, Bool, true, false, ℕ, ◌+◌, ◌-◌, ◌≤◌, ◌<◌, arith, leb, ltb, leb-true, leb-false, le-leb, lt-leb, ltb-true, lt-ltb}
use Rattle.path.specs.Limits.{max_component_length, max_component_count, max_path_length}
use Rattle.path.specs.Builder.{fits_after}
use Rattle.codec.proofs.Tests.{and_left, and_right}

pub fits_after_lem : (total count n : ℕ) → n ≤ max_component_length → count < max_component_count → total + n ≤ max_path_length → fits_after total count n ≡ true
unfolding fits_after
fits_after_lem total count n a b c = rw (le-leb n max_component_length a, lt-ltb count max_component_count b, le-leb (total + n) max_path_length c)

pub record Fitting (total count n : ℕ) : Type 0 where
  pub short : n ≤ max_component_length
  pub few : count < max_component_count
  pub fits : total + n ≤ max_path_length

pub fitting : (total count n : ℕ) → fits_after total count n ≡ true → Fitting total count n
unfolding fits_after
fitting total count n e =
    let r = and_right (leb n max_component_length) _ e in
    record { short = leb-true n max_component_length (and_left _ _ e); few = ltb-true count max_component_count (and_left _ _ r); fits = leb-true (total + n) max_path_length (and_right (ltb count max_component_count) _ r) }

-- the room left, compared as the code does, without the sum
pub room_left : (total n limit : ℕ) → total ≤ limit → leb n (limit - total) ≡ leb (total + n) limit
room_left total n limit h = go (leb n (limit - total)) refl
  where
    go : (b : Bool) → leb n (limit - total) ≡ b → b ≡ leb (total + n) limit
    go true e = sym (le-leb (total + n) limit (omega (arith, leb-true n (limit - total) e)))
    go false e = sym (lt-leb (total + n) limit (omega (arith, leb-false n (limit - total) e)))
