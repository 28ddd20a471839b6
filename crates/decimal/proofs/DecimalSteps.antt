-- Laws of decimal digits, and what reading a number answers at each exit of the code.
use Rattle.std.proofs.Common.{◌≡◌, ◌≢◌, refl, ℕ, ◌+◌, ◌*◌, ◌^◌, ◌<◌, ◌≤◌, Bool, true, false, cond, ltb, List, [], ◌∷◌, length, drop, get_or, inl, inr, arith}
use Rattle.std.proofs.lemmas.Bool.{ne_eqb, lt-ltb, le-ltb, cases_eq}
use Rattle.std.proofs.lemmas.List.{nil_from_length, at_drop_more, at_drop_all}
use Rattle.codec.specs.Answers.{Said, said, unsaid}
use Rattle.decimal.specs.Decimal.{decimal_value, all_digits, is_decimal, digits_after, read_decimal}

-- what is answered where the digits before made v and s follows
unfoldable pub read_rest : ℕ → List ℕ → Said ℕ
read_rest v s = cond (all_digits s) (cond (ltb (digits_after v s) (2 ^ 64)) (said (digits_after v s)) (unsaid 6)) (unsaid 6)

-- more digits make no smaller number
digits_grow : (v : ℕ) (s : List ℕ) → v ≤ digits_after v s
unfolding digits_after
digits_grow v [] = omega arith
digits_grow v (b ∷ s) = omega (arith, digits_grow (v * 10 + decimal_value b) s)

module _ (v : ℕ) (s : List ℕ) (i : ℕ) where
  pub rest_next : i < length s → decimal_value (get_or s i 0) < 10
      → read_rest v (drop i s) ≡ read_rest (v * 10 + decimal_value (get_or s i 0)) (drop (i + 1) s)
  unfolding read_rest all_digits digits_after
  rest_next h d = rw (at_drop_more (read_rest v) s i 0 h, lt-ltb _ 10 d)

  pub rest_no_digit : i < length s → 10 ≤ decimal_value (get_or s i 0) → read_rest v (drop i s) ≡ unsaid 6
  unfolding read_rest all_digits
  rest_no_digit h d = rw (at_drop_more (read_rest v) s i 0 h, le-ltb _ 10 d)

  pub rest_too_large : i < length s → 2 ^ 64 ≤ v * 10 + decimal_value (get_or s i 0) → read_rest v (drop i s) ≡ unsaid 6
  unfolding read_rest digits_after
  rest_too_large h d =
      let grow = digits_grow (v * 10 + decimal_value (get_or s i 0)) (drop (i + 1) s) in
      rw (at_drop_more (read_rest v) s i 0 h, le-ltb (digits_after (v * 10 + decimal_value (get_or s i 0)) (drop (i + 1) s)) (2 ^ 64) (omega arith))
      (either (all_digits (get_or s i 0 ∷ drop (i + 1) s)))
    where
      either : (b : Bool) → cond {A = Said ℕ} b (unsaid 6) (unsaid 6) ≡ unsaid 6
      either true = refl
      either false = refl

  pub rest_end : length s ≤ i → v < 2 ^ 64 → read_rest v (drop i s) ≡ said v
  unfolding read_rest all_digits digits_after
  rest_end h r = rw (at_drop_all (read_rest v) s i h, lt-ltb v _ r)

-- ---- the start
pub read_empty : (s : List ℕ) → length s < 1 → read_decimal s ≡ unsaid 6
unfolding read_decimal is_decimal
read_empty s h = rw (nil_from_length s (omega arith))

pub read_leading_zero : (s : List ℕ) → 2 ≤ length s → get_or s 0 0 ≡ 48 → read_decimal s ≡ unsaid 6
unfolding read_decimal is_decimal
read_leading_zero [] h e = absurd (omega arith)
read_leading_zero (b ∷ s) h e = rw (e, ne_eqb (length s) 0 (λ z. omega arith))

pub read_starts : (s : List ℕ) → 1 ≤ length s → (2 ≤ length s → get_or s 0 0 ≢ 48) → read_rest 0 s ≡ read_decimal s
unfolding read_rest read_decimal is_decimal all_digits decimal_value
read_starts [] h e = absurd (omega arith)
read_starts (b ∷ []) h e = elim (cases_eq b 48) [
  | inl z ↦ rw z
  | inr n ↦ rw (ne_eqb b 48 n)
]
read_starts (b ∷ a ∷ s) h e = rw (ne_eqb b 48 (e (omega arith)))

pub ruleset reading = (rest_next, rest_no_digit, rest_too_large, rest_end, read_empty, read_leading_zero, read_starts)
