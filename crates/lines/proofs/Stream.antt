-- The claim of specs/Laws.antt: the answers of a stream are those to the lines of the whole.
use Rattle.codec.proofs.Prelude.{◌≡◌, refl, sym, ap, ◌∙◌, List, [], ◌∷◌, ◌++◌, append_assoc, append-nil, Bool, true, false, cond, ℕ, zero, suc, ◌<◌, arith, ltb, eqb, ltb-true, ltb-false, length, take, drop, length-take-le, take_all}
use mathlib.Core.List.{flatten}
use Rattle.std.specs.List.{onto_first}
use Rattle.lines.specs.Lines.{lines_of, on_whole, whole_lines, span, answers, fitting_lines}
use Rattle.lines.specs.Stream.{kept_after, stream, Run, answered, more, ended}
use Rattle.lines.specs.Laws.{NeedsFirst, StreamClaim}
use Rattle.lines.proofs.Lines.{all_lines, rest_none, answers-append}
use Rattle.lines.proofs.Fitting.{fitting_lines_lem}

-- where all lines longer than n bytes have the same answer, no answer needs more than the first n + 1
pub needs_first : (f : List ℕ → List ℕ) (n : ℕ) (r : List ℕ) → ((l : List ℕ) → n < length l → f l ≡ r) → NeedsFirst (suc n) f
needs_first f n r long l = by_cases (ltb n (length l)) refl
  where
    by_cases : (b : Bool) → ltb n (length l) ≡ b → f (take (suc n) l) ≡ f l
    by_cases true e =
        let h = ltb-true n (length l) e in
        let k : n < length (take (suc n) l) = omega (arith, length-take-le (suc n) l (omega (arith, h))) in
        long (take (suc n) l) k ∙ sym (long l h)
    by_cases false e = ap f (take_all (suc n) l (omega (arith, ltb-false n (length l) e)))

-- ---- bytes without a newline in front of other bytes
put_first : List ℕ → List (List ℕ) → List (List ℕ)
put_first [] ls = ls
put_first (b ∷ s) ls = onto_first b (put_first s ls)

onto_none : (b : ℕ) (s : List ℕ) → put_first (b ∷ s) [] ≡ (b ∷ s) ∷ []
unfolding put_first
onto_none b [] = refl
onto_none b (a ∷ s) = ap (onto_first b) (onto_none a s)

onto_some : (s l : List ℕ) (ls : List (List ℕ)) → put_first s (l ∷ ls) ≡ (s ++ l) ∷ ls
unfolding put_first
onto_some [] l ls = refl
onto_some (b ∷ s) l ls = ap (onto_first b) (onto_some s l ls)

no_newline : (b : ℕ) (s : List ℕ) → whole_lines (b ∷ s) ≡ [] → (eqb b 10 ≡ false) × (whole_lines s ≡ [])
unfolding whole_lines
no_newline b s h = by_cases (eqb b 10) (whole_lines s) h
  where
    by_cases : (t : Bool) (w : List (List ℕ)) → cond t ([] ∷ w) (on_whole b w) ≡ [] → (t ≡ false) × (w ≡ [])
    by_cases true w h = absurd (let z : ◌≡◌ {A = ℕ} 0 1 = cc in omega arith)
    by_cases false [] h = (refl, refl)
    by_cases false (l ∷ w) h = absurd (let z : ◌≡◌ {A = ℕ} 0 1 = cc in omega arith)

lines_onto : (s c : List ℕ) → whole_lines s ≡ [] → lines_of (s ++ c) ≡ put_first s (lines_of c)
unfolding lines_of put_first
lines_onto [] c h = refl
lines_onto (b ∷ s) c h =
    let p = no_newline b s h in
    rw (p.0, lines_onto s c p.1)

take_none : (n : ℕ) (s : List ℕ) → whole_lines s ≡ [] → whole_lines (take n s) ≡ []
unfolding whole_lines
take_none zero s h = refl
take_none (suc n) [] h = refl
take_none (suc n) (b ∷ s) h =
    let p = no_newline b s h in
    rw (p.0, take_none n s p.1)

take_again : (n : ℕ) (s l : List ℕ) → take n (s ++ l) ≡ take n (take n s ++ l)
take_again zero s l = refl
take_again (suc n) [] l = refl
take_again (suc n) (b ∷ s) l = ap (λ (r : List ℕ). b ∷ r) (take_again n s l)

-- ---- the claim
module _ (f : List ℕ → List ℕ) (n : ℕ) (first : NeedsFirst (suc n) f) where
  cut_first : (s : List ℕ) (ls : List (List ℕ)) → answers f (put_first s ls) ≡ answers f (put_first (take (suc n) s) ls)
  unfolding answers
  cut_first [] ls = refl
  cut_first (b ∷ s) [] = rw (onto_none b s, onto_none b (take n s), ← (first (b ∷ s)))
  cut_first (b ∷ s) (l ∷ ls) =
      let e : f ((b ∷ s) ++ l) ≡ f (take (suc n) (b ∷ s) ++ l) =
      sym (first ((b ∷ s) ++ l)) ∙ ap f (take_again (suc n) (b ∷ s) l) ∙ first (take (suc n) (b ∷ s) ++ l) in
      rw (onto_some (b ∷ s) l ls, onto_some (take (suc n) (b ∷ s)) l ls, e)

  kept_lines : (s c : List ℕ) → whole_lines s ≡ [] → answers f (lines_of (take (suc n) s ++ c)) ≡ answers f (lines_of (s ++ c))
  kept_lines s c h = rw (lines_onto s c h, lines_onto (take (suc n) s) c (take_none (suc n) s h)) (sym (cut_first s (lines_of c)))

  stream-answers : (cs : List (List ℕ)) (h : List ℕ) → stream f (suc n) h cs ≡ answers f (lines_of (h ++ flatten cs))
  unfolding stream kept_after flatten
  stream-answers [] h = rw append-nil
  stream-answers (c ∷ cs) h =
      let s = h ++ c in
      let w = whole_lines s in
      let r = drop (span w) s in
      ap (λ (x : List ℕ). answers f w ++ x) (stream-answers cs (take (suc n) r) ∙ kept_lines r (flatten cs) (rest_none w s refl))
      ∙ sym (answers-append f w (lines_of (r ++ flatten cs)))
      ∙ ap (answers f) (sym (all_lines (flatten cs) w s refl))
      ∙ ap (λ (x : List ℕ). answers f (lines_of x)) (append_assoc h c (flatten cs))

  run_answers : (most : ℕ) {s o : List ℕ} {cs : List (List ℕ)} → Run f most (suc n) s cs o → o ≡ answers f (lines_of (s ++ flatten cs))
  unfolding flatten
  run_answers most (answered s o cs room r) =
      let g = fitting_lines f most room s in
      ap (λ (x : List ℕ). answers f g ++ x) (run_answers most r)
      ∙ sym (answers-append f g (lines_of (drop (span g) s ++ flatten cs)))
      ∙ ap (answers f) (sym (fitting_lines_lem f most (flatten cs) s room))
  run_answers most (more s c o cs h r) = run_answers most r ∙ rw append_assoc (kept_lines s (c ++ flatten cs) h)
  run_answers most (ended s h) = rw append-nil

pub answers_lines : StreamClaim
answers_lines f zero h first = absurd (omega arith)
answers_lines f (suc n) h first = record {
  whole = λ cs. stream-answers f n first cs [];
  steps = λ most cs o r. run_answers f n first most r;
}
