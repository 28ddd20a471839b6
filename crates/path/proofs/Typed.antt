-- What the language says of an array of bytes, from what owning one tells.
use Rattle.codec.proofs.Prelude.{List, [], ◌∷◌, ℕ, zero, suc, arith, w8, Val, shadow, UInt, each}
use Rattle.codec.specs.Answers.{AllBytes}

pub each_byte : (bs : List ℕ) (us : List Val) → shadow (each ℕ (UInt w8).own_val bs us) → AllBytes bs
each_byte [] us h i = omega arith
each_byte (b ∷ bs) [] h i = absurd h
each_byte (b ∷ bs) (u ∷ us) h zero = omega (arith, h.0.1)
each_byte (b ∷ bs) (u ∷ us) h (suc i) = each_byte bs us h.1 i
