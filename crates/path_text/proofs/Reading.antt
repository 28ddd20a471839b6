-- Laws of reading components one after another.
use Rattle.codec.proofs.Prelude.{◌≡◌, refl, sym, ap, ◌∙◌, List, [], ◌∷◌, ◌++◌, map, append_assoc, append-nil, Bool, true, false, cond, ℕ, ◌+◌, ◌≤◌, ◌<◌, ◌&&◌, arith, inl, inr, leb, leb-true, le-leb, length, drop, get_or, length-append}
use Rattle.std.proofs.Common.{Ok, Err, Result}
use Rattle.std.specs.List.{list_all}
use Rattle.std.specs.Result.{result_ok}
use Rattle.std.proofs.lemmas.List.{at_drop_more, at_drop_all}
use Rattle.std.proofs.lemmas.Bool.Decides.{nat_tests}
use Rattle.std.proofs.lemmas.Bool.{cases_Bool, false_from_ne_true, both_ways, and_from, and_parts}
use Rattle.codec.specs.Answers.{said}
use Rattle.text.specs.Parts.{parts}
use Rattle.text.specs.Hex.{is_hex, unhex}
use Rattle.path.specs.declared.PathBuilder.{PathBuilder}
use Rattle.path.specs.declared.PathError.{PathError}
use Rattle.path.specs.Limits.{max_component_length, total_of, limits, all_short, path_ok}
use Rattle.path.specs.Record.{path_from}
use Rattle.path.specs.Builder.{built, built_from, built_more, fits_after, Appends}
use Rattle.codec.specs.Format.{verdict_by, refused_value}
use Rattle.codec.proofs.Lawful.{verdict_allowed}
use Rattle.path.specs.Answers.{path_number}
use Rattle.codec.proofs.Tests.{and_left, and_right}
use Rattle.path.proofs.Limits.{total_append, total_snoc, limits_total, limits_count, limits_of}
use Rattle.path.proofs.Builder.{Fitting, fitting, fits_after_lem}
use Rattle.path.proofs.Growing.{built_count, built_total, built_flat, appends_built}
use Rattle.path_text.specs.PathText.{read_field, refused_field, field_of, read_texts, read_components_text}
use Rattle.path_text.specs.inside.PathText.{text_fits, AppendsText}

-- ---- the limits, one component more
short_snoc : (cs : List (List ℕ)) (c : List ℕ) → all_short cs ≡ true → length c ≤ max_component_length → all_short (cs ++ (c ∷ [])) ≡ true
short_snoc [] c e h = rw (le-leb (length c) max_component_length h)
short_snoc (x ∷ cs) c e h = rw (and_left (leb (length x) max_component_length) _ e) (short_snoc cs c (and_right (leb (length x) max_component_length) _ e) h)

short_at : (cs : List (List ℕ)) (c : List ℕ) (r : List (List ℕ)) → all_short (cs ++ (c ∷ r)) ≡ true → length c ≤ max_component_length
short_at [] c r e = leb-true (length c) max_component_length (and_left _ _ e)
short_at (x ∷ cs) c r e = short_at cs c r (and_right (leb (length x) max_component_length) _ e)

module _ (cs : List (List ℕ)) (c : List ℕ) where
  pub ok_next : path_ok cs ≡ true → Fitting (total_of cs) (length cs) (length c) → path_ok (cs ++ (c ∷ [])) ≡ true
  unfolding path_ok
  ok_next e f =
      let all = cs ++ (c ∷ []) in
      let l : limits (total_of all) (length all) ≡ true =
      limits_of (total_of all) (length all) (omega (arith, total_snoc cs c, f.fits)) (omega (arith, length-append cs (c ∷ []), f.few)) in
      rw l (short_snoc cs c (and_right (limits (total_of cs) (length cs)) _ e) f.short)

  pub ok_fitting : (r : List (List ℕ)) → path_ok (cs ++ (c ∷ r)) ≡ true → Fitting (total_of cs) (length cs) (length c)
  unfolding path_ok
  ok_fitting r e =
      let all = cs ++ (c ∷ r) in
      let l : limits (total_of all) (length all) ≡ true = and_left _ _ e in
      record {
        short = short_at cs c r (and_right (limits (total_of all) (length all)) _ e);
        few = omega (arith, length-append cs (c ∷ r), limits_count (total_of all) (length all) l);
        fits = omega (arith, total_append cs (c ∷ r), limits_total (total_of all) (length all) l);
      }

-- ---- the path of components, or a refusal
module _ (cs : List (List ℕ)) where
  field-over : path_ok cs ≡ false → field_of cs ≡ refused_field
  unfolding field_of path_ok
  field-over e = rw e

  pub field_ok : path_ok cs ≡ true → field_of cs ≡ read_field (path_from cs)
  unfolding field_of path_ok
  field_ok e = rw e

-- ---- the texts that are left, the first of them t
module _ (cs : List (List ℕ)) where
  pub texts_end : path_ok cs ≡ true → read_texts cs [] ≡ read_field (path_from cs)
  unfolding read_texts
  texts_end ok = rw (append-nil, field_ok cs ok)

  module _ (t : List ℕ) (ts : List (List ℕ)) where
    texts_more : is_hex t ≡ true → read_texts cs (t ∷ ts) ≡ read_texts (cs ++ (unhex t ∷ [])) ts
    unfolding read_texts
    texts_more h = rw (h, append_assoc cs (unhex t ∷ []) (map unhex ts))

    -- t is no hex, or does not fit
    texts_stop : (is_hex t ≡ true → Fitting (total_of cs) (length cs) (length (unhex t)) → ⊥) → read_texts cs (t ∷ ts) ≡ refused_field
    unfolding read_texts
    texts_stop stop = elim (cases_Bool (is_hex t)) [
      | inl h ↦
          let over : path_ok (cs ++ (unhex t ∷ map unhex ts)) ≡ false = false_from_ne_true _ (λ ok. stop h (ok_fitting cs (unhex t) (map unhex ts) ok)) in
          rw (field-over (cs ++ (unhex t ∷ map unhex ts)) over) (same (is_hex t && list_all is_hex ts))
      | inr h ↦ rw h
    ]
      where
        same : (b : Bool) → cond b refused_field refused_field ≡ refused_field
        same true = refl
        same false = refl

-- ---- the loop: the builder has the components of the first n parts, and reading the others into it reads all
pub record Held (s flat : List ℕ) (b : PathBuilder) (n : ℕ) : Type 0 where
  pub done : List (List ℕ)
  pub made : built b flat ≡ built_from done
  pub ok : path_ok done ≡ true
  pub still : read_components_text s ≡ read_texts done (drop n (parts 47 s))

pub held_none : (s flat : List ℕ) (b : PathBuilder) → built b flat ≡ built_from [] → Held s flat b 0
unfolding read_components_text path_ok
held_none s flat b made = record { done = []; made = made; ok = refl; still = refl }

module _ {s flat : List ℕ} {b : PathBuilder} {n : ℕ} (l : Held s flat b n) where
  pub held_all : length (parts 47 s) ≤ n → read_components_text s ≡ said (record { flat = flat })
  held_all h = l.still ∙ at_drop_all (read_texts l.done) (parts 47 s) n h ∙ texts_end l.done l.ok ∙ rw (built_flat l.done l.made)

  module _ (t : List ℕ) (h : n < length (parts 47 s)) (e : t ≡ get_or (parts 47 s) n t) where
    first : read_components_text s ≡ read_texts l.done (t ∷ drop (n + 1) (parts 47 s))
    first = l.still ∙ at_drop_more (read_texts l.done) (parts 47 s) n t h ∙ ap (λ (x : List ℕ). read_texts l.done (x ∷ drop (n + 1) (parts 47 s))) (sym e)

    pub held_stop : text_fits b t ≡ false → read_components_text s ≡ refused_field
    held_stop a = first ∙ texts_stop l.done t (drop (n + 1) (parts 47 s)) (λ hex f.
        let fits = fits_after_lem b.total b.count (length (unhex t)) f.short (omega (arith, built_count l.done l.made, f.few)) (omega (arith, built_total l.done l.made, f.fits)) in
        both_ways (text_fits b t) a (and_from (is_hex t) _ hex fits))

    pub held_next : (grown : PathBuilder) (left : List ℕ) → (text_fits b t ≡ true) × (built grown left ≡ built_more b (unhex t) flat) → Held s left grown (n + 1)
    held_next grown left a =
        let both = and_parts (is_hex t) (fits_after b.total b.count (length (unhex t))) a.0 in
        let r = fitting b.total b.count (length (unhex t)) both.1 in
        let fit : Fitting (total_of l.done) (length l.done) (length (unhex t)) =
        record { short = r.short; few = omega (arith, built_count l.done l.made, r.few); fits = omega (arith, built_total l.done l.made, r.fits) } in
        let appends : Appends b (unhex t) flat (Ok grown) left = rw both.1 (record { answer = refl; is = a.1; same = tt }) in
        record {
          done = l.done ++ (unhex t ∷ []);
          made = appends_built l.done l.made (unhex t) appends fit.short fit.few fit.fits;
          ok = ok_next l.done (unhex t) l.ok fit;
          still = first ∙ texts_more l.done t (drop (n + 1) (parts 47 s)) both.0;
        }

-- ---- one component more, from its text
module _ (b : PathBuilder) (t s : List ℕ) where
  pub appends_none : (is_hex t ≡ true → max_component_length < length (unhex t)) → text_fits b t ≡ false
  unfolding fits_after
  appends_none over = grind (arith, nat_tests)

  pub appends_text : is_hex t ≡ true → (r : Result PathBuilder PathError) {left : List ℕ} → Appends b (unhex t) s r left → AppendsText b t s (result_ok r) left
  appends_text h (Ok grown) a = (rw h (verdict_allowed true (fits_after b.total b.count (length (unhex t))) (sym a.answer)).1, a.is)
  appends_text h (Err e) a = rw h (refuses (fits_after b.total b.count (length (unhex t))) a.answer)
    where
      refuses : (d : Bool) → refused_value (path_number e) ≡ verdict_by true d → d ≡ false
      refuses true k = absurd (cc)
      refuses false k = refl
