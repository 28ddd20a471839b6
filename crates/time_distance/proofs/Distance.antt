-- The laws of a time read by its difference from another, and of the nearest of a range's start and end.
use Rattle.codec.proofs.Prelude.{◌≡◌, refl, Bool, true, false, false≢true, not, ℕ, ◌+◌, ◌-◌, ◌≤◌, arith, leb, ltb, le-leb, leb-true, leb-false, ltb-true, ltb-false}
use Rattle.codec.specs.Reader.{checked}
use Rattle.codec.specs.Reads.{ReadsAs, Bounded, Yields}
use Rattle.codec.proofs.Once.{Once, all_yield, checked_once, mapped_once}
use Rattle.codec.proofs.Bounded.{checked_bounded, mapped_bounded}
use Rattle.codec.proofs.Yields.{yields_as, checked_yields, mapped_yields}
use Rattle.codec.proofs.ReadsAs.{one_of, checked_as, mapped_as}
use Rattle.compact_u64.specs.Number.{min_tag, number_bytes, read_number}
use Rattle.compact_u64.proofs.Number.{number_once, number_back, number_bounded, number_yields}
use Rattle.grouping.specs.declared.RangeEnd.{RangeEnd}
use Rattle.grouping.specs.declared.RangeEnd.TheVariants.{Closed, Open}
use Rattle.grouping.specs.declared.TimeRange.{TimeRange}
use Rattle.grouping.specs.Range.{top, end_value, TypedRange, end_after}
use Rattle.time_distance.specs.Distance.{distance, distance_to, nearest_of, reaches, time_from, read_from, side_of}

pub from_bounded : (w : ℕ) (from : RangeEnd) (added : Bool) (tag : ℕ) → Bounded (read_from w from added tag)
unfolding read_from
from_bounded w from added tag = mapped_bounded (time_from from added) _ (checked_bounded (reaches from added) _ (number_bounded w tag false))

-- of differences that reach no two make one time
apart : (from : RangeEnd) (added : Bool) (a b : ℕ) → reaches from added a ≡ true → reaches from added b ≡ true → time_from from added a ≡ time_from from added b → a ≡ b
apart (Closed x) true a b h k e = omega (arith, e)
apart (Closed x) false a b h k e = omega (arith, e, leb-true a x h, leb-true b x k)
apart Open added a b h k e = e

module _ (w : ℕ) (from : RangeEnd) (added : Bool) (tag : ℕ) where
  reached : Yields (checked (reaches from added) (read_number false w tag)) (λ d. reaches from added d ≡ true)
  reached = yields_as _ _ _ (checked_yields (reaches from added) (read_number false w tag) (λ d. Unit {0}) (all_yield _ _ (λ d. tt))) (λ d x. x.0)

  pub from_once : Once (read_from w from added tag)
  unfolding read_from
  from_once = mapped_once (time_from from added) _ _ reached (apart from added) (checked_once (reaches from added) _ (number_once w tag))

-- a time at or after another is added, one at or before it subtracted
module _ (w : ℕ) (w2 : 2 ≤ w) (w64 : w ≤ 64) (x y : ℕ) (h : x ≤ top) (k : y ≤ top) where
  number : ReadsAs (read_number false w (min_tag w (distance y x))) (distance y x) (number_bytes w (distance y x))
  number = one_of (number_back w (min_tag w (distance y x)) w2 w64 false) (record { small = omega arith; tagged = refl; bytes = refl })

  pub later_as : x ≤ y → ReadsAs (read_from w (Closed x) true (min_tag w (distance y x))) y (number_bytes w (distance y x))
  unfolding read_from
  later_as l =
      let is : x + distance y x ≡ y = omega arith in
      let there = mapped_as (checked_as number (reaches (Closed x) true) (le-leb (x + distance y x) top (omega arith))) (time_from (Closed x) true) in
      rw is at there

  pub earlier_as : y ≤ x → ReadsAs (read_from w (Closed x) false (min_tag w (distance y x))) y (number_bytes w (distance y x))
  unfolding read_from
  earlier_as l =
      let is : x - distance y x ≡ y = omega arith in
      let there = mapped_as (checked_as number (reaches (Closed x) false) (le-leb (distance y x) x (omega arith))) (time_from (Closed x) false) in
      rw is at there

-- a time against the nearer of a range's start and end
module _ (w : ℕ) (w2 : 2 ≤ w) (w64 : w ≤ 64) (r : TimeRange) (t : TypedRange r) (x : ℕ) (h : x ≤ top) where
  start_as : (b : Bool) → leb r.start x ≡ b → ReadsAs (read_from w (Closed r.start) b (min_tag w (distance x r.start))) x (number_bytes w (distance x r.start))
  start_as true e = later_as w w2 w64 r.start x t.start h (leb-true r.start x e)
  start_as false e = earlier_as w w2 w64 r.start x t.start h (omega (arith, leb-false r.start x e))

  end_as : (e : RangeEnd) → end_value e ≤ top → leb (distance x r.start) (distance_to e x) ≡ false
      → ReadsAs (read_from w e (not (end_after e x)) (min_tag w (distance_to e x))) x (number_bytes w (distance_to e x))
  end_as (Closed y) k f = go (ltb x y) refl
    where
      go : (b : Bool) → ltb x y ≡ b → ReadsAs (read_from w (Closed y) (not b) (min_tag w (distance x y))) x (number_bytes w (distance x y))
      go true e = earlier_as w w2 w64 y x k h (omega (arith, ltb-true x y e))
      go false e = later_as w w2 w64 y x k h (omega (arith, ltb-false x y e))
  end_as Open k f = absurd (omega (arith, leb-false (distance x r.start) top f, t.start))

  pub nearest_as : ReadsAs (read_from w (side_of r (nearest_of r x).from_start) (nearest_of r x).added (min_tag w (nearest_of r x).difference)) x (number_bytes w (nearest_of r x).difference)
  unfolding nearest_of
  nearest_as = go (leb (distance x r.start) (distance_to r.end x)) refl
    where
      go : (b : Bool) → leb (distance x r.start) (distance_to r.end x) ≡ b
          → ReadsAs (read_from w (side_of r (nearest_of r x).from_start) (nearest_of r x).added (min_tag w (nearest_of r x).difference)) x (number_bytes w (nearest_of r x).difference)
      go true e = rw e (start_as (leb r.start x) refl)
      go false e = rw e (end_as r.end t.end e)

-- what is read is a time of 64 bits
pub from_yields : (w : ℕ) → 2 ≤ w → w ≤ 64 → (from : RangeEnd) (added : Bool) (tag : ℕ) → end_value from ≤ top → Yields (read_from w from added tag) (λ x. x ≤ top)
unfolding read_from
from_yields w w2 w64 from added tag k =
    mapped_yields (time_from from added) _ (λ x. x ≤ top) (
    yields_as _ _ (λ d. time_from from added d ≤ top) (checked_yields (reaches from added) _ _ (number_yields w tag w2 w64 false)) (λ d x. go from added d k x.0))
  where
    go : (from : RangeEnd) (added : Bool) (d : ℕ) → end_value from ≤ top → reaches from added d ≡ true → time_from from added d ≤ top
    go (Closed x) true d k e = leb-true (x + d) top e
    go (Closed x) false d k e = omega arith
    go Open added d k e = absurd (false≢true e)
