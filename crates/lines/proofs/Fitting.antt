-- Laws of answering lines while there is room, for the loop that answers the whole lines of a text.
use Rattle.codec.proofs.Prelude.{◌≡◌, refl, sym, ap, ◌∙◌, List, [], ◌∷◌, ◌++◌, Bool, true, false, cond, ℕ, ◌+◌, ◌-◌, ◌≤◌, ◌<◌, arith, eqb, ltb, lt-ltb, le-ltb, length, take, drop, drop-drop}
use Rattle.std.proofs.Common.{Some, None}
use Rattle.std.specs.List.{position}
use Rattle.lines.specs.Lines.{lines_of, whole_lines, span, fitting, fitting_lines}
use Rattle.lines.proofs.Lines.{whole_none, whole_next, lines_next, span-append, span_zero}

module _ (f : List ℕ → List ℕ) (most : ℕ) where
  -- ---- one line
  fitting_next : (room : ℕ) (l : List ℕ) (ls : List (List ℕ)) → most ≤ room → fitting f most room (l ∷ ls) ≡ l ∷ fitting f most (room - length (f l)) ls
  unfolding fitting
  fitting_next room l ls h = rw (le-ltb room most h)

  -- with room enough some line is taken, where there is one
  fitting_none : (room : ℕ) (ls : List (List ℕ)) → most ≤ room → fitting f most room ls ≡ [] → ls ≡ []
  fitting_none room [] h e = refl
  fitting_none room (l ∷ ls) h e =
      let y : l ∷ fitting f most (room - length (f l)) ls ≡ [] = sym (fitting_next room l ls h) ∙ e in
      absurd (let z : ◌≡◌ {A = ℕ} 0 1 = cc in omega arith)

  -- ---- the exits of the loop
  pub fitting_short : (s : List ℕ) (room : ℕ) → room < most → fitting_lines f most room s ≡ []
  unfolding fitting
  fitting_short s room h = go (whole_lines s)
    where
      go : (ls : List (List ℕ)) → fitting f most room ls ≡ []
      go [] = refl
      go (l ∷ ls) = rw (lt-ltb room most h)

  pub fitting_end : (s : List ℕ) (room : ℕ) → position (λ b. eqb b 10) s ≡ None → fitting_lines f most room s ≡ []
  unfolding fitting
  fitting_end s room h = rw (whole_none s h)

  -- a turn, n bytes being the buffer's length: the line that is answered, and the lines that are still to be answered
  pub fitting_turn : (s : List ℕ) (n at put k : ℕ) → most ≤ n - put → position (λ b. eqb b 10) (drop at s) ≡ Some k
      → fitting_lines f most (n - put) (drop at s) ≡ take k (drop at s) ∷ fitting_lines f most (n - (put + length (f (take k (drop at s))))) (drop (at + (k + 1)) s)
  fitting_turn s n at put k h e =
      let r = drop at s in
      let a = length (f (take k r)) in
      let room : n - put - a ≡ n - (put + a) = omega arith in
      let w : whole_lines r ≡ take k r ∷ whole_lines (drop (k + 1) r) = (whole_next r k e).1 in
      rw w (fitting_next (n - put) (take k r) _ h ∙ rw (room, drop-drop (k + 1) at s))

  -- ---- what is left
  -- the lines of a text are those answered and those of what follows them
  lines_of_fitting : (t : List ℕ) (ls : List (List ℕ)) (room : ℕ) (s : List ℕ) → whole_lines s ≡ ls
      → lines_of (s ++ t) ≡ fitting f most room ls ++ lines_of (drop (span (fitting f most room ls)) s ++ t)
  unfolding fitting span
  lines_of_fitting t [] room s h = refl
  lines_of_fitting t (l ∷ ls) room s h =
      by_cases (lines_next t s l ls h).0
      (lines_of_fitting t ls (room - length (f l)) (drop (length l + 1) s) (sym (lines_next t s l ls h).1))
      (ltb room most)
    where
      r : ℕ
      r = room - length (f l)

      by_cases : lines_of (s ++ t) ≡ l ∷ lines_of (drop (length l + 1) s ++ t)
          → lines_of (drop (length l + 1) s ++ t) ≡ fitting f most r ls ++ lines_of (drop (span (fitting f most r ls)) (drop (length l + 1) s) ++ t)
          → (d : Bool) → lines_of (s ++ t) ≡ cond d [] (l ∷ fitting f most r ls) ++ lines_of (drop (span (cond d [] (l ∷ fitting f most r ls))) s ++ t)
      by_cases n ih true = refl
      by_cases n ih false = n ∙ ap (λ (m : List (List ℕ)). l ∷ m) (rw drop-drop at ih)

  pub fitting_lines_lem : (t s : List ℕ) (room : ℕ) → lines_of (s ++ t) ≡ fitting_lines f most room s ++ lines_of (drop (span (fitting_lines f most room s)) s ++ t)
  fitting_lines_lem t s room = lines_of_fitting t (whole_lines s) room s refl

  -- the same of the whole lines
  whole_of_fitting : (ls : List (List ℕ)) (room : ℕ) (s : List ℕ) → whole_lines s ≡ ls
      → whole_lines s ≡ fitting f most room ls ++ whole_lines (drop (span (fitting f most room ls)) s)
  unfolding fitting span
  whole_of_fitting [] room s h = refl
  whole_of_fitting (l ∷ ls) room s h =
      by_cases (whole_of_fitting ls (room - length (f l)) (drop (length l + 1) s) (sym (lines_next [] s l ls h).1)) (ltb room most)
    where
      r : ℕ
      r = room - length (f l)

      by_cases : whole_lines (drop (length l + 1) s) ≡ fitting f most r ls ++ whole_lines (drop (span (fitting f most r ls)) (drop (length l + 1) s))
          → (d : Bool) → whole_lines s ≡ cond d [] (l ∷ fitting f most r ls) ++ whole_lines (drop (span (cond d [] (l ∷ fitting f most r ls))) s)
      by_cases ih true = refl
      by_cases ih false = h ∙ ap (λ (m : List (List ℕ)). l ∷ m) ((lines_next [] s l ls h).1 ∙ rw drop-drop at ih)

  pub fitting-span : (s : List ℕ) (room : ℕ)
      → span (whole_lines s) ≡ span (fitting_lines f most room s) + span (whole_lines (drop (span (fitting_lines f most room s)) s))
  fitting-span s room = ap span (whole_of_fitting (whole_lines s) room s refl) ∙ span-append (fitting_lines f most room s) _

  -- nothing taken, with room enough: no whole line
  pub fitting_nothing : (s : List ℕ) (room : ℕ) → most ≤ room → span (fitting_lines f most room s) ≡ 0 → span (whole_lines s) ≡ 0
  unfolding span
  fitting_nothing s room h e = rw (fitting_none room (whole_lines s) h (span_zero _ e))
