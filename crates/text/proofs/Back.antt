-- There and back: what was printed is read as it was.
use Rattle.codec.proofs.Prelude.{◌≡◌, refl, ◌∙◌, sym, List, [], ◌∷◌, ◌++◌, true, ℕ, zero, suc, ◌+◌, ◌*◌, ◌/◌, ◌%◌, ◌^◌, ◌≤◌, ◌<◌, pow-suc, arith, ltb, lt-ltb, le-ltb, length, get_or, List·getD-append}
use Rattle.std.proofs.Common.{inl, inr}
use Rattle.std.specs.List.{list_all}
use Rattle.std.proofs.lemmas.Bool.{and_from, eq-eqb, cases_eq, cases_lt}
use Rattle.std.proofs.lemmas.List.Folds.{list_all-append}
use Rattle.std.proofs.lemmas.Bool.Decides.{nat_tests}
use Rattle.io.specs.Digits.{hex_digit_ascii, last_digits}
use Rattle.codec.specs.Answers.{said, AllBytes}
use Rattle.codec.specs.Format.{over}
use Rattle.decimal.specs.Decimal.{decimal_value, all_digits, digits_after, read_decimal}
use Rattle.decimal.proofs.DecimalSteps.{read_rest, read_starts}
use Rattle.text.specs.Hex.{hex_value, is_hex, unhex, hex_text}
use Rattle.text.specs.Decimal.{digit_count, decimal_text}
use Rattle.text.specs.Fields.{read_hex, hex_buffer}
use Rattle.text.specs.Laws.{TextLaws}
use Rattle.text.proofs.DecimalPrinted.{digits_long}
use Rattle.text.proofs.HexSteps.{hex_text_long}

-- ---- hex
glyph_value : (d : ℕ) → d < 16 → hex_value (hex_digit_ascii d) ≡ d
unfolding hex_value
glyph_value d h = grind (arith, nat_tests)

glyphs : (bs : List ℕ) → AllBytes bs → list_all (λ b. ltb (hex_value b) 16) (hex_text bs) ≡ true
unfolding hex_text
glyphs [] h = refl
glyphs (b ∷ bs) h =
    let byte : b < 256 = h 0 in
    rw (glyph_value (b / 16) (omega arith), glyph_value (b % 16) (omega arith), lt-ltb (b / 16) 16 (omega arith), lt-ltb (b % 16) 16 (omega arith)) (glyphs bs (λ i. h (suc i)))

bytes_back : (bs : List ℕ) → AllBytes bs → unhex (hex_text bs) ≡ bs
unfolding unhex hex_text
bytes_back [] h = refl
bytes_back (b ∷ bs) h =
    let byte : b < 256 = h 0 in
    let z : b / 16 * 16 + b % 16 ≡ b = omega arith in
    rw (glyph_value (b / 16) (omega arith), glyph_value (b % 16) (omega arith), z, bytes_back bs (λ i. h (suc i)))

pub hex_back : (bs : List ℕ) → AllBytes bs → (is_hex (hex_text bs) ≡ true) × (unhex (hex_text bs) ≡ bs)
unfolding is_hex
hex_back bs h = (and_from _ _ (eq-eqb (length (hex_text bs) % 2) 0 (omega (arith, hex_text_long bs))) (glyphs bs h), bytes_back bs h)

hex_read : (bs buf : List ℕ) → AllBytes bs → length bs ≤ length buf
    → (read_hex (hex_text bs) (length buf) ≡ said (length bs)) × (hex_buffer (hex_text bs) buf ≡ over bs buf)
unfolding read_hex hex_buffer
hex_read bs buf h room =
    let r = hex_back bs h in
    let e = le-ltb (length buf) (length bs) room in
    (rw (r.0, r.1, e), rw (r.0, r.1, e))

-- ---- decimal: the number
digits_snoc : (s : List ℕ) (v b : ℕ) → digits_after v (s ++ (b ∷ [])) ≡ digits_after v s * 10 + decimal_value b
unfolding digits_after
digits_snoc [] v b = refl
digits_snoc (x ∷ s) v b = digits_snoc s (v * 10 + decimal_value x) b

digit_back : (n : ℕ) → decimal_value (hex_digit_ascii (n % 10)) ≡ n % 10
unfolding decimal_value
digit_back n = rw (lt-ltb (n % 10) 10 (omega arith), le-ltb (48 + n % 10) 48 (omega arith), lt-ltb (48 + n % 10) 58 (omega arith)) (omega arith)

number_back : (k n : ℕ) → n < 10 ^ k → digits_after 0 (last_digits 10 k n) ≡ n
unfolding digits_after
number_back zero n h = omega arith
number_back (suc k) n h =
    let p : 10 ^ suc k ≡ 10 ^ k * 10 = pow-suc 10 k in
    digits_snoc (last_digits 10 k (n / 10)) 0 (hex_digit_ascii (n % 10)) ∙ rw (number_back k (n / 10) (omega (arith, h, p)), digit_back n) (omega arith)

-- so many digits hold the number
count_holds : (k n : ℕ) → n < 10 ^ suc k → n < 10 ^ digit_count k n
unfolding digit_count
count_holds zero n h = h
count_holds (suc k) n h = elim (cases_lt n 10) [
  | inl e ↦ rw (lt-ltb n 10 e) (omega arith)
  | inr e ↦ rw (le-ltb n 10 e) (omega (arith, count_holds k (n / 10) (omega (arith, pow-suc 10 (suc k))), pow-suc 10 (digit_count k (n / 10))))
]

-- ---- decimal: the form
all_digits_lem : (k n : ℕ) → all_digits (last_digits 10 k n) ≡ true
unfolding all_digits
all_digits_lem zero n = refl
all_digits_lem (suc k) n =
    let e : decimal_value (hex_digit_ascii (n % 10)) < 10 = omega (arith, digit_back n) in
    rw (list_all-append (λ b. ltb (decimal_value b) 10) (last_digits 10 k (n / 10)) (hex_digit_ascii (n % 10) ∷ []))
    (and_from _ _ (all_digits_lem k (n / 10)) (rw (lt-ltb _ 10 e)))

-- a number above 0 does not start with a zero
one_digit : (n : ℕ) → 0 < n → n < 10 → hex_digit_ascii (n % 10) ≡ 48 → ⊥
one_digit n p h e = let f : 48 + n % 10 ≡ 48 = rw (lt-ltb (n % 10) 10 (omega arith)) at e in omega arith

count_some : (k n : ℕ) → 0 < digit_count k n
unfolding digit_count
count_some zero n = omega arith
count_some (suc k) n = grind (arith, nat_tests)

starts_above : (k n : ℕ) → 0 < n → n < 10 ^ suc k → get_or (last_digits 10 (digit_count k n) n) 0 0 ≡ 48 → ⊥
unfolding digit_count
starts_above zero n p h = one_digit n p (omega arith)
starts_above (suc k) n p h = elim (cases_lt n 10) [
  | inl e ↦ rw (lt-ltb n 10 e) (one_digit n p e)
  | inr e ↦
      let j = digit_count k (n / 10) in
      let same = List·getD-append (last_digits 10 j (n / 10)) (hex_digit_ascii (n % 10) ∷ []) 0 0 (omega (arith, digits_long j (n / 10), count_some k (n / 10))) in
      rw (le-ltb n 10 e, same) (starts_above k (n / 10) (omega arith) (omega (arith, pow-suc 10 (suc k))))
]

starts : (n : ℕ) → n < 10 ^ 20 → 2 ≤ digit_count 19 n → get_or (decimal_text n) 0 0 ≡ 48 → ⊥
unfolding digit_count decimal_text
starts n h l = elim (cases_eq n 0) [
  | inl e ↦ let z : 2 ≤ 1 = rw e at l in absurd (omega arith)
  | inr e ↦ starts_above 19 n (omega arith) h
]

pub decimal_back : (n : ℕ) → n < 2 ^ 64 → read_decimal (decimal_text n) ≡ said n
unfolding decimal_text read_rest
decimal_back n h =
    let k = digit_count 19 n in
    let long = digits_long k n in
    sym (read_starts (decimal_text n) (omega (arith, long, count_some 19 n)) (λ l. starts n (omega arith) (omega (arith, long))))
    ∙ rw (all_digits_lem k n, number_back k n (count_holds 19 n (omega arith)), lt-ltb n (2 ^ 64) h)

pub text_laws : TextLaws
text_laws = record { decimal = decimal_back; hex = hex_read }
