-- A program that answers the lines of its input: its readings, its answers, and what it keeps between two readings.
use Rattle.std.specs.Prelude.{◌≡◌, List, [], ◌∷◌, ◌++◌, cond, ℕ, ◌-◌, leb, length, take, drop}
use Rattle.lines.specs.Lines.{lines_of, whole_lines, span, answers, fitting_lines}

-- the bytes of a buffer from a place to an end, at most `limit` of them; none where the buffer ends before
unfoldable pub kept : ℕ → ℕ → ℕ → List ℕ → List ℕ
kept limit at end l = cond (leb end (length l)) (take limit (take (end - at) (drop at l))) []

-- what is kept of a text once its whole lines are answered: at most `limit` bytes of the rest
unfoldable pub kept_after : ℕ → List ℕ → List ℕ
kept_after limit s = take limit (drop (span (whole_lines s)) s)

-- what is written for the pieces that are read, the bytes h being kept
unfoldable pub stream : (List ℕ → List ℕ) → ℕ → List ℕ → List (List ℕ) → List ℕ
stream f limit h [] = answers f (lines_of h)
stream f limit h (c ∷ cs) = answers f (whole_lines (h ++ c)) ++ stream f limit (kept_after limit (h ++ c)) cs

-- the same step by step, the output too in pieces: `Run f most limit s cs o` says that with the bytes s at hand and the pieces cs still to be
-- read, o is all that is still written
pub data Run (f : List ℕ → List ℕ) (most limit : ℕ) : List ℕ → List (List ℕ) → List ℕ → Type 0 where
  -- whole lines are answered, as many as a buffer of some size takes
  answered : (s o : List ℕ) (cs : List (List ℕ)) (room : ℕ)
      → Run f most limit (drop (span (fitting_lines f most room s)) s) cs o
      → Run f most limit s cs (answers f (fitting_lines f most room s) ++ o)
  -- no whole line is left: at most `limit` bytes are kept, and a piece is read
  more : (s c o : List ℕ) (cs : List (List ℕ)) → whole_lines s ≡ [] → Run f most limit (take limit s ++ c) cs o → Run f most limit s (c ∷ cs) o
  -- no whole line is left, and nothing more is read
  ended : (s : List ℕ) → whole_lines s ≡ [] → Run f most limit s [] (answers f (lines_of s))
