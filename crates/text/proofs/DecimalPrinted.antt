-- What `io::decimal` writes is the number's text, of at most 20 digits.
use Rattle.codec.proofs.Prelude.{◌≡◌, refl, ap, ℕ, zero, suc, ◌-◌, ◌/◌, ◌^◌, ◌≤◌, ◌<◌, pow-suc, arith, lt-ltb, le-ltb, length, length-append}
use Rattle.std.proofs.lemmas.Bool.Decides.{nat_tests}
use Rattle.io.specs.Digits.{last_digits, IsDigitCount}
use Rattle.text.specs.Decimal.{digit_count, decimal_text}

ten_pos : (k : ℕ) → 0 < 10 ^ k
ten_pos zero = omega arith
ten_pos (suc k) = rw (pow-suc 10 k) (omega (arith, ten_pos k))

-- the fewest digits are the count
count_is : (k r n : ℕ) → n < 10 ^ suc k → IsDigitCount 10 1 n r → r ≡ digit_count k n
unfolding digit_count
count_is k zero n h f = absurd (omega (arith, f.0))
count_is zero (suc zero) n h f = refl
count_is (suc k) (suc zero) n h f = rw (lt-ltb n 10 (omega (arith, f.1)))
count_is zero (suc (suc q)) n h f =
    let e : suc (suc q) - 1 ≡ suc q = omega arith in
    let b : 10 ^ suc q ≤ n = rw e at (f.2 (omega arith)) in
    absurd (omega (arith, b, pow-suc 10 q, ten_pos q, h))
count_is (suc k) (suc (suc q)) n h f =
    let e : suc (suc q) - 1 ≡ suc q = omega arith in
    let b : 10 ^ suc q ≤ n = rw e at (f.2 (omega arith)) in
    let m : 10 ≤ n = omega (arith, b, pow-suc 10 q, ten_pos q) in
    let e' : suc q - 1 ≡ q = omega arith in
    let p : 10 ^ q ≤ n / 10 = omega (arith, b, pow-suc 10 q) in
    rw (le-ltb n 10 m)
    (ap suc (count_is k (suc q) (n / 10) (omega (arith, h, pow-suc 10 (suc k)))
    (omega arith, omega (arith, f.1, pow-suc 10 (suc q)), λ z. rw e' p)))

pub decimal_is : (n r : ℕ) → n < 2 ^ 64 → IsDigitCount 10 1 n r → last_digits 10 r n ≡ decimal_text n
unfolding decimal_text
decimal_is n r h f = ap (λ (k : ℕ). last_digits 10 k n) (count_is 19 r n (omega arith) f)

-- ---- how long it is
count_few : (k n : ℕ) → digit_count k n ≤ suc k
unfolding digit_count
count_few zero n = omega arith
count_few (suc k) n = let few = count_few k (n / 10) in grind (arith, nat_tests)

pub digits_long : (k n : ℕ) → length (last_digits 10 k n) ≡ k
digits_long zero n = refl
digits_long (suc k) n = rw (length-append, digits_long k (n / 10)) (omega arith)

pub decimal_few : (n : ℕ) → length (decimal_text n) ≤ 20
unfolding decimal_text
decimal_few n = rw (digits_long (digit_count 19 n) n) (count_few 19 n)
