-- Laws of lists of bytes that are the same.
use lib.Pointwise.{pointwise}
use Rattle.codec.proofs.Prelude.{◌≡◌, refl, List, [], ◌∷◌, true, false, ℕ, eqb, eqb-true, eq-eqb}
use Rattle.codec.specs.Bytes.{same_bytes}
use Rattle.codec.proofs.Tests.{and_left, and_right, and_not}

pub same_eq : (s t : List ℕ) → same_bytes s t ≡ true → s ≡ t
same_eq [] [] e = refl
same_eq [] (b ∷ t) e = let z : false ≡ true = e in cc
same_eq (a ∷ s) [] e = let z : false ≡ true = e in cc
same_eq (a ∷ s) (b ∷ t) e = cc (eqb-true a b (and_left _ _ e), same_eq s t (and_right (eqb a b) _ e))

pub same_refl : (a : List ℕ) → same_bytes a a ≡ true
same_refl [] = refl
same_refl (x ∷ a) = rw (eq-eqb x x refl) (same_refl a)

pub different : (a b : List ℕ) → (a ≡ b → ⊥) → same_bytes a b ≡ false
different [] [] h = absurd (h refl)
different [] (y ∷ b) h = refl
different (x ∷ a) [] h = refl
different (x ∷ a) (y ∷ b) h =
    and_not (eqb x y) (same_bytes a b) (λ e. different a b (λ q. h (let g : x ≡ y = eqb-true x y e in cc)))

-- as slices are compared
pub same_pointwise : (s t : List ℕ) → pointwise eqb s t ≡ same_bytes s t
same_pointwise [] [] = refl
same_pointwise [] (b ∷ t) = refl
same_pointwise (a ∷ s) [] = refl
same_pointwise (a ∷ s) (b ∷ t) = rw (same_pointwise s t)
