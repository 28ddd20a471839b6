-- Parts of a list of bytes are lists of bytes.
use Rattle.codec.proofs.Prelude.{ℕ, zero, suc, ◌+◌, ◌<◌, List, [], ◌∷◌, ◌++◌, arith, take, drop, replicate, get_or-drop}
use Rattle.codec.specs.Answers.{AllBytes}

pub AllBytes-drop : (n : ℕ) (s : List ℕ) → AllBytes s → AllBytes (drop n s)
AllBytes-drop n s h i = rw get_or-drop (h (n + i))

pub AllBytes-take : (n : ℕ) (s : List ℕ) → AllBytes s → AllBytes (take n s)
AllBytes-take zero s h i = omega arith
AllBytes-take (suc n) [] h i = omega arith
AllBytes-take (suc n) (x ∷ s) h zero = h 0
AllBytes-take (suc n) (x ∷ s) h (suc i) = AllBytes-take n s (λ j. h (suc j)) i

pub AllBytes-none : AllBytes []
AllBytes-none i = omega arith

pub AllBytes-cons : (x : ℕ) (s : List ℕ) → x < 256 → AllBytes s → AllBytes (x ∷ s)
AllBytes-cons x s l h zero = l
AllBytes-cons x s l h (suc i) = h i

pub AllBytes-append : (s t : List ℕ) → AllBytes s → AllBytes t → AllBytes (s ++ t)
AllBytes-append [] t h k i = k i
AllBytes-append (x ∷ s) t h k zero = h 0
AllBytes-append (x ∷ s) t h k (suc i) = AllBytes-append s t (λ j. h (suc j)) k i

pub AllBytes-zeros : (n : ℕ) → AllBytes (replicate n 0)
AllBytes-zeros zero i = omega arith
AllBytes-zeros (suc n) zero = omega arith
AllBytes-zeros (suc n) (suc i) = AllBytes-zeros n i
