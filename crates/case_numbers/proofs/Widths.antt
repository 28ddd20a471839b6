-- The width that a digit names.
use Rattle.std.proofs.Common.{◌≡◌, refl, sym, List, [], ◌∷◌, ℕ, ◌-◌, ◌≤◌, arith, length, get_or, Some, None, Result, Ok, Err}
use Rattle.std.specs.Option.{option_map}
use Rattle.std.specs.Result.{result_ok}
use Rattle.std.proofs.lemmas.Bool.Decides.{nat_tests}
use Rattle.codec.specs.declared.Malformed.{Malformed}
use Rattle.compact_u64.specs.declared.TagWidth.{TagWidth}
use Rattle.compact_u64.specs.declared.TagWidth.TheVariants as width
use Rattle.compact_u64.specs.Answers.{bits, HasBits}
use Rattle.case_numbers.specs.Lines.{width_of}

pub width_digit : (f : List ℕ) (n : ℕ) → length f ≡ 1 → n ≡ get_or f 0 0 - 48 → 2 ≤ n → n ≤ 8 → width_of f ≡ Some n
unfolding width_of
width_digit [] n h e l u = absurd (omega arith)
width_digit (b ∷ []) n h e l u = grind (arith, nat_tests)
width_digit (b ∷ a ∷ f) n h e l u = absurd (omega arith)

pub width_none : (f : List ℕ) → (length f ≡ 1 → 50 ≤ get_or f 0 0 → get_or f 0 0 ≤ 56 → ⊥) → width_of f ≡ None
unfolding width_of
width_none [] other = refl
width_none (b ∷ []) other = let k : 50 ≤ b → b ≤ 56 → ⊥ = other refl in grind (arith, nat_tests)
width_none (b ∷ a ∷ f) other = grind (arith, nat_tests)

bits_few : (w : TagWidth) → (2 ≤ bits w) × (bits w ≤ 8)
bits_few width.Two = (omega arith, omega arith)
bits_few width.Three = (omega arith, omega arith)
bits_few width.Four = (omega arith, omega arith)
bits_few width.Five = (omega arith, omega arith)
bits_few width.Six = (omega arith, omega arith)
bits_few width.Seven = (omega arith, omega arith)
bits_few width.Eight = (omega arith, omega arith)

pub width_named : (f : List ℕ) (n : ℕ) (r : Result TagWidth Malformed) → length f ≡ 1 → 48 ≤ get_or f 0 0 → n ≡ get_or f 0 0 - 48 → HasBits n r → option_map bits (result_ok r) ≡ width_of f
width_named f n (Ok w) h b e x = let few = bits_few w in rw x (sym (width_digit f n h e (omega (arith, x)) (omega (arith, x))))
width_named f n (Err z) h b e x = sym (width_none f (λ one l u. x (omega arith, omega arith)))
