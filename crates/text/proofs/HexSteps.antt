-- Laws of bytes in hex, and of the loops that read and print them.
use Rattle.std.proofs.Common.{◌≡◌, refl, ◌∙◌, List, [], ◌∷◌, true, false, ℕ, zero, suc, ◌+◌, ◌*◌, ◌/◌, ◌%◌, ◌≤◌, ◌<◌, arith, ltb, eqb, length, drop, get_or, set, length-set, inl, inr}
use Rattle.std.proofs.lemmas.List.{drop_more, drop_all, get_or_past}
use Rattle.std.proofs.lemmas.Bool.{lt-ltb, le-ltb, ltb-true, eqb-true, and_parts, cases_lt}
use Rattle.std.proofs.lemmas.List.Sums.{AllPass-from_list_all}
use Rattle.std.specs.Simd.{first_chunks}
use Rattle.io.specs.Digits.{hex_digit_ascii}
use Rattle.codec.specs.Answers.{AllBytes, said, unsaid}
use Rattle.text.specs.Hex.{hex_value, is_hex, unhex, hex_text}
use Rattle.text.specs.Buffer.{over_at}
use Rattle.text.specs.Fields.{read_hex, hex_buffer}
use Rattle.text.proofs.Buffer.{puts, over_at_none, over_at_next}

-- ---- reading
pub unhex_long : (s : List ℕ) → length (unhex s) ≡ length s / 2
unfolding unhex
unhex_long [] = refl
unhex_long (a ∷ []) = refl
unhex_long (a ∷ b ∷ s) = omega (arith, unhex_long s)

pub is_hex_even : (s : List ℕ) → is_hex s ≡ true → length s ≡ 2 * length (unhex s)
unfolding is_hex
is_hex_even s h =
    let e = eqb-true (length s % 2) 0 (and_parts (eqb (length s % 2) 0) _ h).0 in
    omega (arith, e, unhex_long s)

pub is_hex_digit : (s : List ℕ) (i : ℕ) → is_hex s ≡ true → i < length s → hex_value (get_or s i 0) < 16
unfolding is_hex
is_hex_digit s i h k = ltb-true _ 16 (AllPass-from_list_all (λ b. ltb (hex_value b) 16) s (and_parts (eqb (length s % 2) 0) _ h).1 i 0 k)

pub unhex_at : (s : List ℕ) (i : ℕ) → i < length s / 2 → get_or (unhex s) i 0 ≡ hex_value (get_or s (2 * i) 0) * 16 + hex_value (get_or s (2 * i + 1) 0)
unfolding unhex
unhex_at [] i h = absurd (omega arith)
unhex_at (a ∷ []) i h = absurd (omega arith)
unhex_at (a ∷ b ∷ s) zero h = refl
unhex_at (a ∷ b ∷ s) (suc i) h =
    let e : 2 * suc i ≡ suc (suc (2 * i)) = omega arith in
    let f : 2 * suc i + 1 ≡ suc (suc (2 * i + 1)) = omega arith in
    rw (f, e) (unhex_at s i (omega arith))

pub unhex_bytes : (s : List ℕ) → is_hex s ≡ true → AllBytes (unhex s)
unhex_bytes s h i = elim (cases_lt i (length s / 2)) [
  | inl k ↦ rw (unhex_at s i k) (omega (arith, is_hex_digit s (2 * i) h (omega arith), is_hex_digit s (2 * i + 1) h (omega arith)))
  | inr k ↦ rw (get_or_past (unhex s) i 0 (omega (arith, unhex_long s))) (omega arith)
]

-- the i-th two digits
pair_at : (s : List ℕ) (n i : ℕ) → i < n → 2 * n ≤ length s → get_or (first_chunks 2 n s) i [] ≡ get_or s (2 * i) 0 ∷ get_or s (2 * i + 1) 0 ∷ []
pair_at s zero i h k = absurd (omega arith)
pair_at [] (suc n) i h k = absurd (omega arith)
pair_at (a ∷ []) (suc n) i h k = absurd (omega arith)
pair_at (a ∷ b ∷ s) (suc n) zero h k = refl
pair_at (a ∷ b ∷ s) (suc n) (suc i) h k =
    let e : 2 * suc i ≡ suc (suc (2 * i)) = omega arith in
    let f : 2 * suc i + 1 ≡ suc (suc (2 * i + 1)) = omega arith in
    rw (f, e) (pair_at s n i (omega arith) (omega arith))

module _ (s : List ℕ) (i : ℕ) (h : i < length s / 2) where
  pub high_at : get_or (get_or (first_chunks 2 (length s / 2) s) i []) 0 0 ≡ get_or s (2 * i) 0
  high_at = rw (pair_at s (length s / 2) i h (omega arith)) refl

  pub low_at : get_or (get_or (first_chunks 2 (length s / 2) s) i []) 1 0 ≡ get_or s (2 * i + 1) 0
  low_at = rw (pair_at s (length s / 2) i h (omega arith)) refl

-- a byte stored, the others still to be read
pub unhex_turn : (s l : List ℕ) (i : ℕ) → i < length s / 2 → i < length l
    → over_at i (drop i (unhex s)) l ≡ over_at (i + 1) (drop (i + 1) (unhex s)) (set l i (hex_value (get_or s (2 * i) 0) * 16 + hex_value (get_or s (2 * i + 1) 0)))
unhex_turn s l i h k = rw (drop_more (unhex s) i 0 (omega (arith, unhex_long s)), unhex_at s i h) (over_at_next i _ _ l k)

pub unhex_whole : (s l : List ℕ) (i : ℕ) → length s / 2 ≤ i → over_at i (drop i (unhex s)) l ≡ l
unhex_whole s l i h = rw (drop_all i (unhex s) (omega (arith, unhex_long s))) (over_at_none i l)

-- ---- what reading answers
module _ (s l : List ℕ) where
  pub read_hex_not : (room : ℕ) → is_hex s ≡ false → read_hex s room ≡ unsaid 6
  unfolding read_hex
  read_hex_not room e = rw e

  pub read_hex_full : (room : ℕ) → is_hex s ≡ true → room < length s / 2 → read_hex s room ≡ unsaid 4
  unfolding read_hex
  read_hex_full room e h = rw (e, unhex_long s, lt-ltb _ _ h)

  pub read_hex_fits : (room : ℕ) → is_hex s ≡ true → length s / 2 ≤ room → read_hex s room ≡ said (length s / 2)
  unfolding read_hex
  read_hex_fits room e h = rw (e, unhex_long s, le-ltb _ _ h)

  pub hex_buffer_not : is_hex s ≡ false → hex_buffer s l ≡ l
  unfolding hex_buffer
  hex_buffer_not e = rw e

  pub hex_buffer_full : is_hex s ≡ true → length l < length s / 2 → hex_buffer s l ≡ l
  unfolding hex_buffer
  hex_buffer_full e h = rw (e, unhex_long s, lt-ltb _ _ h)

  pub hex_buffer_fits : is_hex s ≡ true → length s / 2 ≤ length l → hex_buffer s l ≡ over_at 0 (unhex s) l
  unfolding hex_buffer over_at
  hex_buffer_fits e h = rw (e, unhex_long s, le-ltb _ _ h)

pub ruleset reading = (is_hex_digit, high_at, low_at, unhex_turn, unhex_whole, read_hex_not, read_hex_full, read_hex_fits, hex_buffer_not, hex_buffer_full, hex_buffer_fits)

-- ---- printing
pub hex_text_long : (s : List ℕ) → length (hex_text s) ≡ 2 * length s
unfolding hex_text
hex_text_long [] = refl
hex_text_long (b ∷ s) = omega (arith, hex_text_long s)

-- two digits stored, the others still to be printed
pub hex_text_turn : (s l : List ℕ) (i p : ℕ) → i < length s → p + 1 < length l
    → over_at p (hex_text (drop i s)) l ≡ over_at (p + 2) (hex_text (drop (i + 1) s)) (set (set l p (hex_digit_ascii (get_or s i 0 / 16))) (p + 1) (hex_digit_ascii (get_or s i 0 % 16)))
unfolding hex_text
hex_text_turn s l i p h k =
    let e : p + 1 + 1 ≡ p + 2 = omega arith in
    rw (drop_more s i 0 h) (over_at_next p _ _ l (omega arith) ∙ over_at_next (p + 1) _ _ _ (rw length-set k) ∙ rw e)

pub hex_text_whole : (s l : List ℕ) (i p : ℕ) → length s ≤ i → over_at p (hex_text (drop i s)) l ≡ l
unfolding hex_text
hex_text_whole s l i p h = rw (drop_all i s h) (over_at_none p l)

pub ruleset printing = (puts, hex_text_long, hex_text_turn, hex_text_whole)
