-- The laws of a time against a range.
use Rattle.codec.proofs.Prelude.{◌≡◌, refl, sym, List, Bool, true, false, cond, not, ℕ, ◌-◌, ◌≤◌, arith, leb, eqb, leb-true, eqb-true, eq-eqb}
use Rattle.codec.specs.Reads.{Reads, Relaxes, Bounded}
use Rattle.codec.proofs.Relations.{Tested, Mapped}
use Rattle.codec.proofs.Tests.{and_left, and_right}
use Rattle.codec.proofs.Readers.{reads_as, mapped_reads, checked_reads}
use Rattle.codec.proofs.Relaxes.{mapped_relaxes, checked_relaxes}
use Rattle.codec.proofs.Bounded.{mapped_bounded, checked_bounded}
use Rattle.compact_u64.specs.Laws.{NumberAs}
use Rattle.compact_u64.proofs.Number.{number_reads, number_relaxes, number_bounded}
use Rattle.grouping.specs.declared.TimeRange.{TimeRange}
use Rattle.grouping.specs.Range.{TypedRange, end_value, bounds}
use Rattle.time_relative.specs.Difference.{difference_of, time_at, is_nearest, read_time}
use Rattle.time_relative.proofs.Relations.{TimeAs}

-- ---- a time in the range
pub record Within (r : TimeRange) (x : ℕ) : Type 0 where
  pub from : r.start ≤ x
  pub to : x ≤ end_value r.end

pub within : (r : TimeRange) (x : ℕ) → bounds r x ≡ true → Within r x
unfolding bounds
within r x e = record { from = leb-true r.start x (and_left _ _ e); to = leb-true x (end_value r.end) (and_right (leb r.start x) _ e) }

module _ (r : TimeRange) (x : ℕ) (b : bounds r x ≡ true) where
  -- its difference says it
  pub difference_says : time_at r (difference_of r x).added (difference_of r x).difference ≡ x
  unfolding time_at difference_of
  difference_says = go (leb (x - r.start) (end_value r.end - x)) refl
    where
      go : (t : Bool) → leb (x - r.start) (end_value r.end - x) ≡ t → time_at r (difference_of r x).added (difference_of r x).difference ≡ x
      go true e = rw e (omega (arith, (within r x b).from))
      go false e = rw e (omega (arith, (within r x b).to))

  pub difference_small : (difference_of r x).difference ≤ end_value r.end
  unfolding difference_of
  difference_small = go (leb (x - r.start) (end_value r.end - x)) refl
    where
      go : (t : Bool) → leb (x - r.start) (end_value r.end - x) ≡ t → (difference_of r x).difference ≤ end_value r.end
      go true e = rw e (omega (arith, (within r x b).to))
      go false e = rw e (omega arith)

-- ---- two flags that are the same
pub same_flag : (a b : Bool) → cond a b (not b) ≡ true → a ≡ b
same_flag true b e = sym e
same_flag false true e = e
same_flag false false e = refl

pub flag_same : (a : Bool) → cond a a (not a) ≡ true
flag_same true = refl
flag_same false = refl

-- ---- the test
pub record Nearest (r : TimeRange) (d x : ℕ) : Type 0 where
  pub inside : bounds r x ≡ true
  pub is : (difference_of r x).difference ≡ d

module _ (r : TimeRange) (added : Bool) (d x : ℕ) where
  pub nearest : (canonic : Bool) → is_nearest canonic r added d x ≡ true → Nearest r d x
  unfolding is_nearest
  nearest canonic e = record { inside = and_left _ _ e; is = eqb-true _ d (and_left _ _ (and_right (bounds r x) _ e)) }

  nearest_added : is_nearest true r added d x ≡ true → (difference_of r x).added ≡ added
  unfolding is_nearest
  nearest_added e = same_flag _ added (and_right (eqb (difference_of r x).difference d) _ (and_right (bounds r x) _ e))

  nearest_relaxes : is_nearest true r added d x ≡ true → is_nearest false r added d x ≡ true
  unfolding is_nearest
  nearest_relaxes e = let n = nearest true e in rw (n.inside, eq-eqb _ d n.is)

  nearest_taken : Nearest r d x → (difference_of r x).added ≡ added → is_nearest true r added d x ≡ true
  unfolding is_nearest
  nearest_taken n f = rw (n.inside, eq-eqb _ d n.is, f) (flag_same added)

-- ---- reading
module _ (w : ℕ) (r : TimeRange) (added : Bool) (tag : ℕ) where
  Rel : ℕ → List ℕ → Type 0
  Rel = Mapped (time_at r added) (Tested (λ d. is_nearest true r added d (time_at r added d)) (NumberAs w tag))

  time_there : (x : ℕ) (e : List ℕ) → Rel x e → TimeAs w r added tag x e
  unfolding Rel
  time_there x e m =
      let d = m.value in
      let n = nearest r added d (time_at r added d) true m.stands.0 in
      rw (← m.named) (record {
        inside = n.inside;
        near = nearest_added r added d (time_at r added d) m.stands.0;
        tagged = rw n.is m.stands.1.tagged;
        bytes = rw n.is m.stands.1.bytes;
      })

  time_back : TypedRange r → (x : ℕ) (e : List ℕ) → TimeAs w r added tag x e → Rel x e
  unfolding Rel
  time_back ty x e t =
      let d = (difference_of r x).difference in
      let says : time_at r added d ≡ x = rw t.near at (difference_says r x t.inside) in
      record {
        value = d;
        named = says;
        stands = (
          rw says (nearest_taken r added d x (record { inside = t.inside; is = refl }) t.near),
          record { small = omega (arith, difference_small r x t.inside, ty.end); tagged = t.tagged; bytes = t.bytes },
        );
      }

  pub time_reads : 2 ≤ w → w ≤ 64 → TypedRange r → Reads (read_time true w r added tag) (TimeAs w r added tag)
  unfolding Rel read_time
  time_reads w2 w64 ty = reads_as _ _ _
      (mapped_reads (time_at r added) _ _ (checked_reads (λ d. is_nearest true r added d (time_at r added d)) _ _ (number_reads w tag w2 w64)))
      time_there (time_back ty)

  pub time_relaxes : Relaxes (read_time true w r added tag) (read_time false w r added tag)
  unfolding read_time
  time_relaxes =
      mapped_relaxes (time_at r added) _ _ (
      checked_relaxes (λ d. is_nearest true r added d (time_at r added d)) (λ d. is_nearest false r added d (time_at r added d)) _ _
      (λ d. nearest_relaxes r added d (time_at r added d)) (number_relaxes w tag))

  pub time_bounded : (canonic : Bool) → Bounded (read_time canonic w r added tag)
  unfolding read_time
  time_bounded canonic =
      mapped_bounded (time_at r added) _ (
      checked_bounded (λ d. is_nearest canonic r added d (time_at r added d)) _ (number_bounded w tag canonic))
  -- in either mode the time lies in the range
