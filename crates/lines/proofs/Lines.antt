-- Laws of the lines of a text.
use Rattle.codec.proofs.Prelude.{◌≡◌, refl, sym, ap, ◌∙◌, List, [], ◌∷◌, ◌++◌, append_assoc, Bool, true, false, not, cond, ℕ, suc, ◌+◌, ◌≤◌, ◌<◌, arith, eqb, length, take, drop, drop-drop}
use Rattle.std.proofs.Common.{Some, None}
use Rattle.std.proofs.lemmas.Bool.Decides.{nat_tests}
use Rattle.std.specs.List.{onto_first, position, position_or_len}
use Rattle.lines.specs.Lines.{lines_of, on_whole, whole_lines, span, answers}

-- ---- by the place of the first newline
abbrev pub newline : List ℕ → ℕ
newline s = position_or_len (λ b. eqb b 10) s

none_whole : (s : List ℕ) → length s ≤ newline s → whole_lines s ≡ []
unfolding whole_lines
none_whole [] h = refl
none_whole (b ∷ s) h = by_cases (none_whole s) (eqb b 10) h
  where
    by_cases : (length s ≤ newline s → whole_lines s ≡ []) → (t : Bool) → length {A = ℕ} (b ∷ s) ≤ cond (not t) (1 + newline s) 0
        → cond t ([] ∷ whole_lines s) (on_whole b (whole_lines s)) ≡ []
    by_cases ih true h = absurd (omega arith)
    by_cases ih false h = rw (ih (omega arith))

one_whole : (s : List ℕ) → newline s < length s → whole_lines s ≡ take (newline s) s ∷ whole_lines (drop (newline s + 1) s)
unfolding whole_lines
one_whole [] h = absurd (omega arith)
one_whole (b ∷ s) h = by_cases (one_whole s) (eqb b 10) h
  where
    by_cases : (newline s < length s → whole_lines s ≡ take (newline s) s ∷ whole_lines (drop (newline s + 1) s))
        → (t : Bool) → cond (not t) (1 + newline s) 0 < length {A = ℕ} (b ∷ s)
        → cond t ([] ∷ whole_lines s) (on_whole b (whole_lines s)) ≡ take (cond (not t) (1 + newline s) 0) (b ∷ s) ∷ whole_lines (drop (cond (not t) (1 + newline s) 0 + 1) (b ∷ s))
    by_cases ih true h = refl
    by_cases ih false h =
        let e : 1 + newline s ≡ suc (newline s) = omega arith in
        let f : suc (newline s) + 1 ≡ suc (newline s + 1) = omega arith in
        rw (ih (omega arith), e, f)

-- none: no whole line
pub whole_none : (s : List ℕ) → position (λ b. eqb b 10) s ≡ None → whole_lines s ≡ []
whole_none s h = none_whole s (grind (arith, nat_tests))

-- one: the line before it, and the lines after it
pub whole_next : (s : List ℕ) (k : ℕ) → position (λ b. eqb b 10) s ≡ Some k → (k < length s) × (whole_lines s ≡ take k s ∷ whole_lines (drop (k + 1) s))
whole_next s k h = grind (arith, nat_tests, one_whole)

-- ---- a first line that is whole is a line, whatever follows; what stands after it has the other lines
pub lines_next : (t s l : List ℕ) (ls : List (List ℕ)) → whole_lines s ≡ l ∷ ls
    → (lines_of (s ++ t) ≡ l ∷ lines_of (drop (length l + 1) s ++ t)) × (ls ≡ whole_lines (drop (length l + 1) s))
unfolding whole_lines lines_of
lines_next t [] l ls h = let z : ◌≡◌ {A = ℕ} 0 1 = cc in absurd (omega arith)
lines_next t (b ∷ s) l ls h = by_cases (λ m ms k. lines_next t s m ms k) (eqb b 10) h
  where
    inner : (w : List (List ℕ)) → ((m : List ℕ) (ms : List (List ℕ)) → w ≡ m ∷ ms → (lines_of (s ++ t) ≡ m ∷ lines_of (drop (length m + 1) s ++ t)) × (ms ≡ whole_lines (drop (length m + 1) s)))
        → on_whole b w ≡ l ∷ ls
        → (onto_first b (lines_of (s ++ t)) ≡ l ∷ lines_of (drop (length l + 1) (b ∷ s) ++ t)) × (ls ≡ whole_lines (drop (length l + 1) (b ∷ s)))
    inner [] ih h = let z : ◌≡◌ {A = ℕ} 0 1 = cc in absurd (omega arith)
    inner (m ∷ ms) ih h =
        let p = ih m ms refl in
        let el : b ∷ m ≡ l = cc in
        let es : ms ≡ ls = cc in
        let e : suc (length m) + 1 ≡ suc (length m + 1) = omega arith in
        (rw (← el, e, p.0), rw (← es, ← el, e) p.1)

    by_cases : ((m : List ℕ) (ms : List (List ℕ)) → whole_lines s ≡ m ∷ ms → (lines_of (s ++ t) ≡ m ∷ lines_of (drop (length m + 1) s ++ t)) × (ms ≡ whole_lines (drop (length m + 1) s)))
        → (d : Bool) → cond d ([] ∷ whole_lines s) (on_whole b (whole_lines s)) ≡ l ∷ ls
        → (cond d ([] ∷ lines_of (s ++ t)) (onto_first b (lines_of (s ++ t))) ≡ l ∷ lines_of (drop (length l + 1) (b ∷ s) ++ t)) × (ls ≡ whole_lines (drop (length l + 1) (b ∷ s)))
    by_cases ih true h =
        let el : ◌≡◌ {A = List ℕ} [] l = cc in
        let es : whole_lines s ≡ ls = cc in
        (rw (← el), rw (← es, ← el))
    by_cases ih false h = inner (whole_lines s) ih h

-- ---- all whole lines
-- the lines are these, then those of what stands after them
pub all_lines : (t : List ℕ) (ls : List (List ℕ)) (s : List ℕ) → whole_lines s ≡ ls → lines_of (s ++ t) ≡ ls ++ lines_of (drop (span ls) s ++ t)
unfolding span
all_lines t [] s h = refl
all_lines t (l ∷ ls) s h =
    let n = lines_next t s l ls h in
    n.0 ∙ ap (λ (m : List (List ℕ)). l ∷ m) (rw drop-drop at (all_lines t ls (drop (length l + 1) s) (sym n.1)))

-- what stands after them has no whole line
pub rest_none : (ls : List (List ℕ)) (s : List ℕ) → whole_lines s ≡ ls → whole_lines (drop (span ls) s) ≡ []
unfolding span
rest_none [] s h = h
rest_none (l ∷ ls) s h = rw drop-drop at (rest_none ls (drop (length l + 1) s) (sym (lines_next [] s l ls h).1))

-- ---- bytes and answers of lists of lines
pub span_none : span [] ≡ 0
unfolding span
span_none = refl

pub span_next : (l : List ℕ) (ls : List (List ℕ)) → span (l ∷ ls) ≡ (length l + 1) + span ls
unfolding span
span_next l ls = refl

pub span-append : (a b : List (List ℕ)) → span (a ++ b) ≡ span a + span b
unfolding span
span-append [] b = omega arith
span-append (l ∷ a) b = omega (arith, span-append a b)

pub span_zero : (a : List (List ℕ)) → span a ≡ 0 → a ≡ []
unfolding span
span_zero [] h = refl
span_zero (l ∷ a) h = absurd (omega arith)

module _ (f : List ℕ → List ℕ) where
  pub answers_none : answers f [] ≡ []
  unfolding answers
  answers_none = refl

  pub answers_next : (l : List ℕ) (ls : List (List ℕ)) → answers f (l ∷ ls) ≡ f l ++ answers f ls
  unfolding answers
  answers_next l ls = refl

  pub answers-append : (a b : List (List ℕ)) → answers f (a ++ b) ≡ answers f a ++ answers f b
  unfolding answers
  answers-append [] b = refl
  answers-append (l ∷ a) b = rw (answers-append a b) (sym (append_assoc (f l) (answers f a) (answers f b)))
