-- Numbers as text: decimal digits, the highest first, without leading zeros.
use Rattle.std.specs.Prelude.{List, cond, ℕ, zero, suc, ◌/◌, ltb}
use Rattle.io.specs.Digits.{last_digits}

-- how many digits a number has, where k + 1 are enough
unfoldable pub digit_count : ℕ → ℕ → ℕ
digit_count zero n = 1
digit_count (suc k) n = cond (ltb n 10) 1 (suc (digit_count k (n / 10)))

-- a number below 10 ^ 20 in decimal; `last_digits 10 k n`, of the crate io, are the last k digits of n
unfoldable pub decimal_text : ℕ → List ℕ
decimal_text n = last_digits 10 (digit_count 19 n) n
