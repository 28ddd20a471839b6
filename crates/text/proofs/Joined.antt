-- Texts put one after another come apart as they were, where none of them has the byte that parts them.
use Rattle.codec.proofs.Prelude.{◌≡◌, refl, List, [], ◌∷◌, ◌++◌, false, ℕ, zero, suc, ◌/◌, ◌%◌, ◌<◌, arith, eqb, eq-eqb}
use Rattle.std.proofs.lemmas.Bool.Decides.{nat_tests}
use Rattle.codec.specs.Writings.{All}
use Rattle.io.specs.Digits.{hex_digit_ascii, last_digits}
use Rattle.text.specs.Parts.{parts}
use Rattle.text.specs.Hex.{hex_text}
use Rattle.text.specs.Decimal.{digit_count, decimal_text}

module _ (x : ℕ) where
  abbrev pub Without : List ℕ → Type 0
  Without s = All (λ b. eqb b x ≡ false) s

  pub without_both : (s t : List ℕ) → Without s → Without t → Without (s ++ t)
  without_both [] t h k = k
  without_both (b ∷ s) t h k = (h.0, without_both s t h.1 k)

  -- a text without x is one part, and one before an x
  pub one_part : (s : List ℕ) → Without s → parts x s ≡ s ∷ []
  unfolding parts
  one_part [] h = refl
  one_part (b ∷ s) h = rw (h.0, one_part s h.1)

  pub parted : (s r : List ℕ) → Without s → parts x (s ++ (x ∷ r)) ≡ s ∷ parts x r
  unfolding parts
  parted [] r h = rw (eq-eqb x x refl)
  parted (b ∷ s) r h = rw (h.0, parted s r h.1)

-- ---- digits are above `/`
module _ (x : ℕ) (below : x < 48) where
  pub other_glyph : (d : ℕ) → eqb (hex_digit_ascii d) x ≡ false
  other_glyph d = grind (arith, nat_tests)

  pub hex_without : (s : List ℕ) → Without x (hex_text s)
  unfolding hex_text
  hex_without [] = tt
  hex_without (b ∷ s) = (other_glyph (b / 16), (other_glyph (b % 16), hex_without s))

  digits_without : (k n : ℕ) → Without x (last_digits 10 k n)
  digits_without zero n = tt
  digits_without (suc k) n = without_both x (last_digits 10 k (n / 10)) (hex_digit_ascii (n % 10) ∷ []) (digits_without k (n / 10)) (other_glyph (n % 10), tt)

  pub decimal_without : (n : ℕ) → Without x (decimal_text n)
  unfolding decimal_text
  decimal_without n = digits_without (digit_count 19 n) n
