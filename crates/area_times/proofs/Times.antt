-- The laws of an area's times against the reference's.
use Rattle.codec.proofs.Prelude.{◌≡◌, refl, sym, List, Bool, true, false, ◌&&◌, ◌||◌, not, true≢false, false≢true, ℕ, arith, leb, eqb, le-leb, eqb-true}
use Rattle.codec.specs.Reader.{give, and_then, mapped}
use Rattle.codec.specs.Reads.{Reads, Relaxes, Bounded}
use Rattle.codec.proofs.Relations.{Given, Tested, Mapped, Chosen}
use Rattle.codec.proofs.Fields.{Field, field_as, field_then, field_last}
use Rattle.codec.proofs.Tests.{and_right}
use Rattle.codec.proofs.Readers.{reads_as, choose_reads, guard_reads, mapped_reads, checked_reads, give_reads}
use Rattle.codec.proofs.Relaxes.{relaxes_self, choose_relaxes, mapped_relaxes, checked_relaxes}
use Rattle.codec.proofs.Bounded.{choose_bounded, guard_bounded, mapped_bounded, checked_bounded, give_bounded}
use Rattle.compact_u64.specs.Number.{min_tag, number_bytes}
use Rattle.grouping.specs.declared.RangeEnd.{RangeEnd}
use Rattle.grouping.specs.declared.RangeEnd.TheVariants.{Closed, Open}
use Rattle.grouping.specs.declared.TimeRange.{TimeRange}
use Rattle.grouping.specs.Range.{TypedRange, top, end_value, is_open, end_at_most, bounds, includes_range, times_from}
use Rattle.time_relative.specs.Difference.{difference_of, end_difference, read_time}
use Rattle.time_relative.proofs.Relations.{TimeAs}
use Rattle.time_relative.proofs.Time.{time_reads, time_relaxes, time_bounded}
use Rattle.area_times.specs.declared.AreaHeader.{AreaHeader}
use Rattle.area_times.specs.Header.{start_tag_width, end_tag_width, spare_bits}
use Rattle.area_times.specs.Times.{header_of, end_bytes, times_bytes, read_end, read_times}
use Rattle.area_times.proofs.Relations.{EndAs, TimesAs}

-- ---- the header that writing gives
pub header_spares : (id : Bool) (r t : TimeRange) → not (spare_bits (header_of id r t)) ≡ true
unfolding header_of spare_bits min_tag
header_spares id r t = go t.end
  where
    go : (end : RangeEnd) → not (is_open end && ((end_difference r end).added || not (eqb (min_tag end_tag_width (end_difference r end).difference) 0))) ≡ true
    go (Closed x) = refl
    go Open = refl

pub header_is : (id : Bool) (r t : TimeRange) (h : AreaHeader) → id ≡ h.id_written → {e : List ℕ} → TimesAs r h t e → header_of id r t ≡ h
unfolding header_of
header_is id r t h i x = rw (i, x.end_open, x.start_added, x.end_added, x.start_tag, x.end_tag)

-- ---- the end
-- no spare bits: an open end comes without a flag and with the tag 0
pub no_spare : (h : AreaHeader) → spare_bits h ≡ false → h.end_open ≡ true → (h.end_added ≡ false) × (h.end_tag ≡ 0)
unfolding spare_bits
no_spare h e o = go h.end_added (eqb h.end_tag 0) refl refl (rw o at e)
  where
    go : (a z : Bool) → h.end_added ≡ a → eqb h.end_tag 0 ≡ z → (a || not z) ≡ false → (h.end_added ≡ false) × (h.end_tag ≡ 0)
    go true z p q f = absurd (true≢false f)
    go false true p q f = (p, eqb-true h.end_tag 0 q)
    go false false p q f = absurd (true≢false f)

module _ (r : TimeRange) (added : Bool) (tag : ℕ) where
  EndRel : Bool → RangeEnd → List ℕ → Type 0
  EndRel opens = Chosen opens (Tested (λ end. not added) (Given Open)) (Mapped Closed (TimeAs end_tag_width r added tag))

  end_there : (opens : Bool) → (opens ≡ true → (added ≡ false) × (tag ≡ 0)) → (end : RangeEnd) (e : List ℕ) → EndRel opens end e → EndAs r opens added tag end e
  unfolding EndRel min_tag
  end_there true q end e j = rw (← j.1.0, j.1.1) (record {
    open_is = refl;
    near = sym (q refl).0;
    tagged = sym (q refl).1;
    inside = λ f. absurd (true≢false f);
    bytes = refl;
  })
  end_there false q end e m =
      let t = m.stands in
      rw (← m.named) (record { open_is = refl; near = t.near; tagged = t.tagged; inside = λ f. t.inside; bytes = t.bytes })

  end_back : (opens : Bool) (end : RangeEnd) (e : List ℕ) → EndAs r opens added tag end e → EndRel opens end e
  unfolding EndRel
  end_back true Open e a = (rw (← a.near), (refl, a.bytes))
  end_back true (Closed x) e a = absurd (false≢true a.open_is)
  end_back false Open e a = absurd (true≢false a.open_is)
  end_back false (Closed x) e a = record { value = x; named = refl; stands = record { inside = a.inside refl; near = a.near; tagged = a.tagged; bytes = a.bytes } }

module _ (r : TimeRange) (h : AreaHeader) where
  start_field : Field (TypedRange r × (spare_bits h ≡ false)) (λ canonic. read_time canonic start_tag_width r h.start_added h.start_tag)
      (TimeAs start_tag_width r h.start_added h.start_tag) (λ x. number_bytes start_tag_width (difference_of r x).difference)
  start_field = record {
    reads = λ f. time_reads start_tag_width r h.start_added h.start_tag (omega arith) (omega arith) f.0;
    relaxes = time_relaxes start_tag_width r h.start_added h.start_tag;
    bounded = time_bounded start_tag_width r h.start_added h.start_tag;
    written = λ x e w. w.bytes;
  }

  pub end_field_lem : Field (TypedRange r × (spare_bits h ≡ false)) (λ canonic. read_end canonic r h) (EndAs r h.end_open h.end_added h.end_tag) (end_bytes r)
  unfolding read_end EndRel
  end_field_lem = record {
    reads = λ f. reads_as _ _ _
        (choose_reads h.end_open _ _ _ _
        (guard_reads (not h.end_added) (give Open) (Given Open) (λ ok. give_reads Open))
        (mapped_reads Closed _ _ (time_reads end_tag_width r h.end_added h.end_tag (omega arith) (omega arith) f.0)))
        (end_there r h.end_added h.end_tag h.end_open (no_spare h f.1))
        (end_back r h.end_added h.end_tag h.end_open);
    relaxes = choose_relaxes h.end_open _ _ _ _ (relaxes_self _) (mapped_relaxes Closed _ _ (time_relaxes end_tag_width r h.end_added h.end_tag));
    bounded = λ canonic. choose_bounded h.end_open _ _
        (guard_bounded (not h.end_added) _ (give_bounded Open))
        (mapped_bounded Closed _ (time_bounded end_tag_width r h.end_added h.end_tag canonic));
    written = λ x e w. w.bytes;
  }

-- ---- both
-- an open end that is included lies between
open_inside : (r t : TimeRange) → TypedRange r → includes_range r t ≡ true → t.end ≡ Open → bounds r (end_value t.end) ≡ true
unfolding includes_range bounds
open_inside r t ty i o = rw o (go r.end refl (rw o at (and_right (leb r.start t.start) _ i)))
  where
    go : (end : RangeEnd) → r.end ≡ end → end_at_most Open end ≡ true → bounds r top ≡ true
    go (Closed x) e q = absurd (false≢true q)
    go Open e q = rw (e, le-leb r.start top ty.start)

is_open_lem : (end : RangeEnd) → is_open end ≡ true → end ≡ Open
is_open_lem (Closed x) e = absurd (false≢true e)
is_open_lem Open e = refl

end_inside : (r t : TimeRange) → TypedRange r → includes_range r t ≡ true → (opens : Bool) → is_open t.end ≡ opens
    → (opens ≡ false → bounds r (end_value t.end) ≡ true) → bounds r (end_value t.end) ≡ true
end_inside r t ty i true o f = open_inside r t ty i (is_open_lem t.end o)
end_inside r t ty i false o f = f refl

module _ (r : TimeRange) (h : AreaHeader) where
  record Both (t : TimeRange) (e : List ℕ) : Type 0 where
    start : TimeAs start_tag_width r h.start_added h.start_tag t.start (number_bytes start_tag_width (difference_of r t.start).difference)
    end : EndAs r h.end_open h.end_added h.end_tag t.end (end_bytes r t.end)
    bytes : e ≡ times_bytes r t

  -- one line a field, in the order in which they are read
  both_laws : Field (TypedRange r × (spare_bits h ≡ false)) (λ canonic. and_then (read_time canonic start_tag_width r h.start_added h.start_tag) (λ start. mapped (times_from start) (read_end canonic r h))) Both (times_bytes r)
  unfolding times_bytes
  both_laws = field_as
      (field_then (λ (t : TimeRange). t.start) (start_field r h) (λ start.
      field_last (λ (t : TimeRange). t.end) (end_field_lem r h) (times_from start) (λ x. ((tt {0}, refl), refl)) (λ t k. rw (← k.1))))
      (λ t e w. record { start = search; end = search; bytes = w.whole })
      (λ t e b. record { known = tt; holds = search; whole = b.bytes })

  pub times_reads : TypedRange r → spare_bits h ≡ false → Reads (read_times true r h) (TimesAs r h)
  unfolding read_times
  times_reads ty spare = reads_as _ _ _ (checked_reads (includes_range r) _ _ (both_laws.reads (ty, spare)))
      (λ t e j. let s = j.1.start in let n = j.1.end in record {
        start_added = s.near;
        start_tag = s.tagged;
        end_open = n.open_is;
        end_added = n.near;
        end_tag = n.tagged;
        included = j.0;
        start = s.inside;
        end = end_inside r t ty j.0 h.end_open n.open_is n.inside;
        bytes = j.1.bytes;
      })
      (λ t e a. (
        a.included,
        record {
          start = record { inside = a.start; near = a.start_added; tagged = a.start_tag; bytes = refl };
          end = record { open_is = a.end_open; near = a.end_added; tagged = a.end_tag; inside = λ f. a.end; bytes = refl };
          bytes = a.bytes;
        },
      ))

  pub times_relaxes : Relaxes (read_times true r h) (read_times false r h)
  unfolding read_times
  times_relaxes = checked_relaxes (includes_range r) (includes_range r) _ _ (λ t i. i) both_laws.relaxes

  pub times_bounded : (canonic : Bool) → Bounded (read_times canonic r h)
  unfolding read_times
  times_bounded canonic = checked_bounded (includes_range r) _ (both_laws.bounded canonic)
