-- Numbers as text: decimal digits, the highest first, without leading zeros.
use Rattle.std.specs.Prelude.{List, [], ◌∷◌, Bool, false, cond, ℕ, ◌+◌, ◌-◌, ◌*◌, ◌^◌, ltb, eqb, length, Option, Some, None}
use Rattle.std.specs.List.{list_all}
use Rattle.codec.specs.Answers.{Said, said, unsaid}

-- the value of a digit, `0` to `9` (48 to 57); 10 for any other byte
unfoldable pub decimal_value : ℕ → ℕ
decimal_value b = cond (ltb b 48) 10 (cond (ltb b 58) (b - 48) 10)

unfoldable pub all_digits : List ℕ → Bool
all_digits s = list_all (λ b. ltb (decimal_value b) 10) s

-- at least one digit, and no leading zero but that of the number 0
unfoldable pub is_decimal : List ℕ → Bool
is_decimal [] = false
is_decimal (b ∷ s) = cond (eqb b 48) (eqb (length s) 0) (all_digits (b ∷ s))

-- the number that digits make, the number v standing before them
unfoldable pub digits_after : ℕ → List ℕ → ℕ
digits_after v [] = v
digits_after v (b ∷ s) = digits_after (v * 10 + decimal_value b) s

-- a number in decimal, below 2 ^ 64; any other text is 6
unfoldable pub read_decimal : List ℕ → Said ℕ
read_decimal s = cond (is_decimal s) (cond (ltb (digits_after 0 s) (2 ^ 64)) (said (digits_after 0 s)) (unsaid 6)) (unsaid 6)

-- what the code's answer stands for
abbrev pub decimal_answer : Option ℕ → Said ℕ
decimal_answer (Some v) = said v
decimal_answer None = unsaid 6
