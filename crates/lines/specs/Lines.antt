-- The lines of a text, and the answers to them.
use Rattle.std.specs.Prelude.{List, [], ◌∷◌, ◌++◌, cond, ℕ, ◌+◌, ◌-◌, ltb, eqb, length}
use Rattle.std.specs.List.{onto_first}

-- the lines of a text; the last one may lack its newline
unfoldable pub lines_of : List ℕ → List (List ℕ)
lines_of [] = []
lines_of (b ∷ s) = cond (eqb b 10) ([] ∷ lines_of s) (onto_first b (lines_of s))

-- a byte in front of the first line, where there is one
abbrev pub on_whole : ℕ → List (List ℕ) → List (List ℕ)
on_whole b [] = []
on_whole b (l ∷ ls) = (b ∷ l) ∷ ls

-- those that have their newline
unfoldable pub whole_lines : List ℕ → List (List ℕ)
whole_lines [] = []
whole_lines (b ∷ s) = cond (eqb b 10) ([] ∷ whole_lines s) (on_whole b (whole_lines s))

-- how many bytes lines take, their newlines with them
unfoldable pub span : List (List ℕ) → ℕ
span [] = 0
span (l ∷ ls) = (length l + 1) + span ls

-- the answers to lines, end to end
unfoldable pub answers : (List ℕ → List ℕ) → List (List ℕ) → List ℕ
answers f [] = []
answers f (l ∷ ls) = f l ++ answers f ls

-- the leading lines that are answered into a buffer of which `room` bytes are free: a line is answered while `most` bytes are free
unfoldable pub fitting : (List ℕ → List ℕ) → ℕ → ℕ → List (List ℕ) → List (List ℕ)
fitting f most room [] = []
fitting f most room (l ∷ ls) = cond (ltb room most) [] (l ∷ fitting f most (room - length (f l)) ls)

-- the same of a text's whole lines
abbrev pub fitting_lines : (List ℕ → List ℕ) → ℕ → ℕ → List ℕ → List (List ℕ)
fitting_lines f most room s = fitting f most room (whole_lines s)
