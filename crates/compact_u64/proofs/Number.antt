-- The laws of reading a number after its tag, for every width w from 2 to 64. Later records cite these and nothing below them.
use Rattle.codec.proofs.Prelude.{◌≡◌, refl, sym, ap, ◌∙◌, List, [], ◌∷◌, Bool, true, false, cond, ◌-◌, ℕ, ◌^◌, ◌≤◌, ◌<◌, mod-eq_of_lt, arith, ltb, eqb, pow_mono, length, take, length-take-le, ltb-true, ltb-false, eqb-true, lt-ltb, le-ltb, eq-eqb}
use Rattle.codec.specs.Answers.{accepted}
use Rattle.codec.specs.Reader.{some_bytes, mapped}
use Rattle.codec.specs.Reads.{Reads, ReadsBack, Relaxes, Bounded, Yields}
use Rattle.codec.proofs.Relations.{SomeBytes, Tested, Mapped}
use Rattle.codec.proofs.Readers.{reads_as, some_bytes_reads, mapped_reads, checked_reads, guard_reads}
use Rattle.codec.proofs.Relaxes.{relaxes_back, relaxes_self, guard_relaxes, checked_relaxes}
use Rattle.codec.proofs.Once.{Once, reads_once}
use Rattle.codec.proofs.Bounded.{some_bytes_bounded, mapped_bounded, checked_bounded, guard_bounded}
use Rattle.compact_u64.specs.BigEndian.{big_endian, value_of}
use Rattle.compact_u64.specs.Number.{inline_limit, min_tag, encoding_width, number_bytes, number_said, read_number, U64}
use Rattle.compact_u64.specs.Laws.{Carries, inline, sized, NumberForm, NumberAs, NumberLaws}
use Rattle.compact_u64.proofs.BigEndian.{length-big_endian, AllBytes-big_endian, value_of-big_endian, value_of_lt, big_endian-value_of}
use Rattle.compact_u64.proofs.Tags.{width_inline, width_sized, two_to_small, min_tag_fits, min_tag_carries, AllBytes-number_bytes, number_bytes_short, number_bytes_least}

nil_of_length : (s : List ℕ) → length s ≡ 0 → s ≡ []
nil_of_length [] h = refl
nil_of_length (b ∷ s) h = absurd (omega arith)

module _ (w tag : ℕ) where
  -- ---- what the bytes after the tag say, and the bytes that say a value
  form_there : (v : ℕ) (e : List ℕ) → tag < 2 ^ w → Mapped (number_said w tag) (SomeBytes (encoding_width w tag)) v e → NumberForm w tag v e
  unfolding number_said
  form_there v e fits m = rw m.stands.2 (go (ltb tag (inline_limit w)) refl m.named)
    where
      go : (b : Bool) → ltb tag (inline_limit w) ≡ b → cond b tag (value_of m.value) ≡ v → NumberForm w tag v m.value
      go true p q =
          let l : tag < inline_limit w = ltb-true tag (inline_limit w) p in
          let none : encoding_width w tag ≡ 0 = width_inline w tag l in
          record { fits = fits; carries = inline l (sym q); bytes = rw none (nil_of_length m.value (m.stands.0 ∙ none)) }
      go false p q =
          let s = m.value in
          let long : length s ≡ encoding_width w tag = m.stands.0 in
          record {
            fits = fits;
            carries = sized (ltb-false tag (inline_limit w) p) (rw (← q, ← long) (value_of_lt s m.stands.1));
            bytes = rw (← q, ← long) (sym (big_endian-value_of s m.stands.1));
          }

  form_back : (v : ℕ) (e : List ℕ) → NumberForm w tag v e → Mapped (number_said w tag) (SomeBytes (encoding_width w tag)) v e
  unfolding number_said
  form_back v e n = record {
    value = big_endian (encoding_width w tag) v;
    named = said n.carries;
    stands = (length-big_endian (encoding_width w tag) v, AllBytes-big_endian (encoding_width w tag) v, n.bytes);
  }
    where
      said : Carries w tag v → cond (ltb tag (inline_limit w)) tag (value_of (big_endian (encoding_width w tag) v)) ≡ v
      said (inline l q) = rw (lt-ltb tag (inline_limit w) l) (sym q)
      said (sized l q) = rw (le-ltb tag (inline_limit w) l) (value_of-big_endian (encoding_width w tag) v ∙ mod-eq_of_lt q)

  -- in either mode the forms that pass its test are read, and nothing else
  forms_tested : (canonic : Bool) → Reads (read_number canonic w tag) (Tested (λ v. cond canonic (eqb (min_tag w v) tag) true) (NumberForm w tag))
  unfolding read_number
  forms_tested canonic = reads_as (read_number canonic w tag) _ _
      (guard_reads (ltb tag (2 ^ w)) _ _ (λ fits.
      checked_reads (λ v. cond canonic (eqb (min_tag w v) tag) true) _ _ (
      mapped_reads (number_said w tag) _ _ (
      some_bytes_reads (encoding_width w tag)))))
      (λ v e g. (g.1.0, form_there v e (ltb-true tag (2 ^ w) g.0) g.1.1))
      (λ v e n. (lt-ltb tag (2 ^ w) n.1.fits, (n.0, form_back v e n.1)))

  -- lenient reading
  pub forms_read : Reads (read_number false w tag) (NumberForm w tag)
  forms_read = reads_as _ _ _ (forms_tested false) (λ v e g. g.1) (λ v e n. (refl, n))

  -- the tag tells how many bytes
  pub number_once : Once (read_number false w tag)
  number_once = reads_once _ _ forms_read (λ v e d x y. x.bytes ∙ sym y.bytes)

  pub number_relaxes : Relaxes (read_number true w tag) (read_number false w tag)
  unfolding read_number
  number_relaxes =
      guard_relaxes (ltb tag (2 ^ w)) (ltb tag (2 ^ w)) _ _ (λ h. h) (λ h.
      checked_relaxes (λ v. eqb (min_tag w v) tag) (λ v. true) _ _ (λ v h. refl) (
      relaxes_self (mapped (number_said w tag) (some_bytes (encoding_width w tag)))))

  pub number_bounded : (canonic : Bool) → Bounded (read_number canonic w tag)
  unfolding read_number
  number_bounded canonic =
      guard_bounded (ltb tag (2 ^ w)) _ (
      checked_bounded (λ v. cond canonic (eqb (min_tag w v) tag) true) _ (
      mapped_bounded (number_said w tag) _ (
      some_bytes_bounded (encoding_width w tag))))

  module _ (w2 : 2 ≤ w) (w64 : w ≤ 64) where
    form_small : (v : ℕ) → tag < 2 ^ w → Carries w tag v → U64 v
    form_small v fits (inline l q) = omega (arith, pow_mono w64)
    form_small v fits (sized l q) =
        let few : tag - inline_limit w ≤ 3 = omega (arith, pow_mono w2) in
        omega (arith, rw (width_sized w tag l) at q, (two_to_small (tag - inline_limit w) few).1)

    -- what is read is a number of 64 bits, in either mode
    pub number_yields : (canonic : Bool) → Yields (read_number canonic w tag) U64
    number_yields canonic = record { holds = λ s v n h e. let x = (forms_tested canonic).sound s v n h e in form_small v x.1.1.fits x.1.1.carries }

    -- strict reading
    pub number_reads : Reads (read_number true w tag) (NumberAs w tag)
    unfolding number_bytes
    number_reads = reads_as _ _ _ (forms_tested true)
        (λ v e g.
        let t : min_tag w v ≡ tag = eqb-true (min_tag w v) tag g.0 in
        record { small = form_small v g.1.fits g.1.carries; tagged = t; bytes = rw t g.1.bytes })
        (λ v e n. (
          eq-eqb (min_tag w v) tag n.tagged,
          record { fits = rw n.tagged at (min_tag_fits w v w2); carries = rw n.tagged at (min_tag_carries w v n.small); bytes = n.bytes ∙ rw n.tagged },
        ))

    -- what is written reads back in either mode
    pub number_back : (canonic : Bool) → ReadsBack (read_number canonic w tag) (NumberAs w tag)
    number_back true = number_reads.back
    number_back false = relaxes_back _ _ _ number_relaxes number_reads.back

-- ---- all of specs/Laws.antt
module _ (w : ℕ) (w2 : 2 ≤ w) (w64 : w ≤ 64) where
  written : (v : ℕ) → U64 v → NumberAs w (min_tag w v) v (number_bytes w v)
  written v h = record { small = h; tagged = refl; bytes = refl }

  formed : (tag v : ℕ) → tag < 2 ^ w → Carries w tag v → NumberForm w tag v (big_endian (encoding_width w tag) v)
  formed tag v fits c = record { fits = fits; carries = c; bytes = refl }

  -- a form takes as many bytes as its tag says: no fewer than writing
  least : (tag v n : ℕ) (s : List ℕ) → n ≤ length s → NumberForm w tag v (take n s) → length (number_bytes w v) ≤ n
  least tag v n s l f =
      let e : n ≡ encoding_width w tag = sym (length-take-le n s l) ∙ ap length f.bytes ∙ length-big_endian (encoding_width w tag) v in
      omega (arith, number_bytes_least w v tag f.carries)

  pub number_laws : NumberLaws w
  number_laws = record {
    tag = λ v h. min_tag_fits w v w2;
    bytes = AllBytes-number_bytes w;
    short = number_bytes_short w;
    back = λ canonic v h t. (number_back w (min_tag w v) w2 w64 canonic).complete v (number_bytes w v) (written v h) t;
    cut = λ canonic v h k l. (number_back w (min_tag w v) w2 w64 canonic).cut v (number_bytes w v) (written v h) k l;
    shortest = λ tag s v n h e. ((number_reads w tag w2 w64).sound s v n h e).1;
    forms = λ tag v fits c t. (forms_read w tag).back.complete v _ (formed tag v fits c) t ∙ ap (accepted v) (length-big_endian (encoding_width w tag) v);
    form = λ tag s v n h e. ((forms_read w tag).sound s v n h e).1;
    form_cut = λ tag v fits c k l. (forms_read w tag).back.cut v _ (formed tag v fits c) k (rw (length-big_endian (encoding_width w tag) v) l);
    least = λ canonic tag s v n h e. let x = (forms_tested w tag canonic).sound s v n h e in least tag v n s x.0 x.1.1;
  }
