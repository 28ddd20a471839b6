-- A text of one byte, as code tests it.
use Rattle.std.proofs.Common.{◌≡◌, ◌≢◌, refl, List, [], ◌∷◌, true, false, ℕ, arith, length, get_or}
use Rattle.std.proofs.lemmas.Bool.{eq-eqb, ne_eqb, and_right}
use Rattle.codec.specs.Bytes.{same_bytes}

pub same_bytes-one : (s : List ℕ) (b : ℕ) → length s ≡ 1 → get_or s 0 0 ≡ b → same_bytes s (b ∷ []) ≡ true
same_bytes-one [] b h e = absurd (omega arith)
same_bytes-one (x ∷ []) b h e = rw (eq-eqb x b e)
same_bytes-one (x ∷ y ∷ s) b h e = absurd (omega arith)

pub same_bytes-other : (s : List ℕ) (b : ℕ) → (length s ≡ 1 → get_or s 0 0 ≢ b) → same_bytes s (b ∷ []) ≡ false
same_bytes-other [] b other = refl
same_bytes-other (x ∷ []) b other = rw (ne_eqb x b (other refl))
same_bytes-other (x ∷ y ∷ s) b other = and_right _ _ refl

pub ruleset one_byte = (same_bytes-one, same_bytes-other)
