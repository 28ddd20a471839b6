-- The laws of a time that a range includes, read by either of its differences.
use Rattle.codec.proofs.Prelude.{◌≡◌, refl, List, Bool, true, false, true≢false, false≢true, ℕ, ◌+◌, ◌-◌, ◌≤◌, arith, leb, leb-true, ltb-true, le-leb}
use Rattle.codec.specs.Reads.{Reads, Relaxes, Bounded}
use Rattle.codec.proofs.Relations.{Tested, Mapped}
use Rattle.codec.proofs.Tests.{and_left, and_right}
use Rattle.codec.proofs.Readers.{reads_as, mapped_reads, checked_reads}
use Rattle.codec.proofs.Relaxes.{mapped_relaxes, checked_relaxes}
use Rattle.codec.proofs.Bounded.{mapped_bounded, checked_bounded}
use Rattle.compact_u64.specs.Laws.{NumberAs}
use Rattle.compact_u64.proofs.Number.{number_reads, number_relaxes, number_bounded}
use Rattle.grouping.specs.declared.RangeEnd.{RangeEnd}
use Rattle.grouping.specs.declared.RangeEnd.TheVariants.{Closed, Open}
use Rattle.grouping.specs.declared.TimeRange.{TimeRange}
use Rattle.grouping.specs.Range.{TypedRange, top, end_value, end_after, bounds, includes_time}
use Rattle.time_relative.specs.Difference.{difference_of, time_at, reach_of, is_included, read_included}
use Rattle.time_relative.proofs.Relations.{IncludedAs}
use Rattle.time_relative.proofs.Time.{difference_says, difference_small, same_flag, flag_same}

-- a time that is included lies between start and end
pub included_bounds : (r : TimeRange) (x : ℕ) → x ≤ top → includes_time r x ≡ true → bounds r x ≡ true
unfolding includes_time bounds
included_bounds r x h e =
    rw (and_left (leb r.start x) _ e) (before r.end (and_right (leb r.start x) _ e))
  where
    before : (end : RangeEnd) → end_after end x ≡ true → leb x (end_value end) ≡ true
    before (Closed y) f = le-leb x y (omega (arith, ltb-true x y f))
    before Open f = le-leb x top h

-- ---- the test, taken apart
record Included (r : TimeRange) (d x : ℕ) (added : Bool) : Type 0 where
  reach : d ≤ reach_of r added
  included : includes_time r x ≡ true

module _ (r : TimeRange) (added : Bool) (d x : ℕ) where
  included_of : (canonic : Bool) → is_included canonic r added d x ≡ true → Included r d x added
  unfolding is_included
  included_of canonic e = record { reach = leb-true d (reach_of r added) (and_left _ _ e); included = and_left _ _ (and_right (leb d (reach_of r added)) _ e) }

  included_added : is_included true r added d x ≡ true → (difference_of r x).added ≡ added
  unfolding is_included
  included_added e = same_flag _ added (and_right (includes_time r x) _ (and_right (leb d (reach_of r added)) _ e))

  included_relaxes' : is_included true r added d x ≡ true → is_included false r added d x ≡ true
  unfolding is_included
  included_relaxes' e = let i = included_of true e in rw (le-leb d (reach_of r added) i.reach, i.included)

  included_taken : Included r d x added → (difference_of r x).added ≡ added → is_included true r added d x ≡ true
  unfolding is_included
  included_taken i f = rw (le-leb d (reach_of r added) i.reach, i.included, f) (flag_same added)

-- the difference of the time that it says, from the side that it is from
says_difference : (r : TimeRange) → TypedRange r → (added : Bool) (d : ℕ) → d ≤ reach_of r added → (difference_of r (time_at r added d)).added ≡ added → (difference_of r (time_at r added d)).difference ≡ d
unfolding difference_of time_at
says_difference r t true d h e = go (leb (r.start + d - r.start) (end_value r.end - (r.start + d))) refl e
  where
    go : (b : Bool) → leb (r.start + d - r.start) (end_value r.end - (r.start + d)) ≡ b → (difference_of r (r.start + d)).added ≡ true → (difference_of r (r.start + d)).difference ≡ d
    go true f q = rw f (omega arith)
    go false f q = let z : false ≡ true = rw f at q in absurd (false≢true z)
says_difference r t false d h e = go (leb (end_value r.end - d - r.start) (end_value r.end - (end_value r.end - d))) refl e
  where
    go : (b : Bool) → leb (end_value r.end - d - r.start) (end_value r.end - (end_value r.end - d)) ≡ b
        → (difference_of r (end_value r.end - d)).added ≡ false → (difference_of r (end_value r.end - d)).difference ≡ d
    go true f q = let z : true ≡ false = rw f at q in absurd (true≢false z)
    go false f q = rw f (omega (arith, h))

-- what it says is a time
says_small : (r : TimeRange) → TypedRange r → (added : Bool) (d : ℕ) → d ≤ reach_of r added → time_at r added d ≤ top
unfolding time_at
says_small r t true d h = omega (arith, h, t.start)
says_small r t false d h = omega (arith, t.end)

-- ---- reading
module _ (w : ℕ) (r : TimeRange) (added : Bool) (tag : ℕ) where
  Rel : ℕ → List ℕ → Type 0
  Rel = Mapped (time_at r added) (Tested (λ d. is_included true r added d (time_at r added d)) (NumberAs w tag))

  included_there : TypedRange r → (x : ℕ) (e : List ℕ) → Rel x e → IncludedAs w r added tag x e
  unfolding Rel
  included_there ty x e m =
      let d = m.value in
      let i = included_of r added d (time_at r added d) true m.stands.0 in
      let near = included_added r added d (time_at r added d) m.stands.0 in
      let is = says_difference r ty added d i.reach near in
      rw (← m.named) (record {
        small = says_small r ty added d i.reach;
        included = i.included;
        near = near;
        tagged = rw is m.stands.1.tagged;
        bytes = rw is m.stands.1.bytes;
      })

  included_back : TypedRange r → (x : ℕ) (e : List ℕ) → IncludedAs w r added tag x e → Rel x e
  unfolding Rel time_at
  included_back ty x e t =
      let d = (difference_of r x).difference in
      let b = included_bounds r x t.small t.included in
      let says : time_at r added d ≡ x = rw t.near at (difference_says r x b) in
      record {
        value = d;
        named = says;
        stands = (
          rw says (included_taken r added d x (record { reach = reaches added t.near b; included = t.included }) t.near),
          record { small = omega (arith, difference_small r x b, ty.end); tagged = t.tagged; bytes = t.bytes },
        );
      }
    where
      reaches : (a : Bool) → (difference_of r x).added ≡ a → bounds r x ≡ true → (difference_of r x).difference ≤ reach_of r a
      reaches true f b = omega (arith, t.small, rw f at (difference_says r x b), ty.start)
      reaches false f b = difference_small r x b

  pub included_reads : 2 ≤ w → w ≤ 64 → TypedRange r → Reads (read_included true w r added tag) (IncludedAs w r added tag)
  unfolding Rel read_included
  included_reads w2 w64 ty = reads_as _ _ _
      (mapped_reads (time_at r added) _ _ (checked_reads (λ d. is_included true r added d (time_at r added d)) _ _ (number_reads w tag w2 w64)))
      (included_there ty) (included_back ty)

  pub included_relaxes : Relaxes (read_included true w r added tag) (read_included false w r added tag)
  unfolding read_included
  included_relaxes =
      mapped_relaxes (time_at r added) _ _ (
      checked_relaxes (λ d. is_included true r added d (time_at r added d)) (λ d. is_included false r added d (time_at r added d)) _ _
      (λ d. included_relaxes' r added d (time_at r added d)) (number_relaxes w tag))

  pub included_bounded : (canonic : Bool) → Bounded (read_included canonic w r added tag)
  unfolding read_included
  included_bounded canonic =
      mapped_bounded (time_at r added) _ (
      checked_bounded (λ d. is_included canonic r added d (time_at r added d)) _ (number_bounded w tag canonic))
