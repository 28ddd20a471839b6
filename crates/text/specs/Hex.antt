-- Bytes as text: two hexadecimal digits a byte, in lower case.
use Rattle.std.specs.Prelude.{List, [], ◌∷◌, Bool, cond, ℕ, ◌+◌, ◌-◌, ◌*◌, ◌/◌, ◌%◌, ◌&&◌, ltb, eqb, length}
use Rattle.std.specs.List.{list_all}
use Rattle.io.specs.Digits.{hex_digit_ascii}

-- the value of a digit, `0` to `9` (48 to 57) or `a` to `f` (97 to 102); 16 for any other byte
unfoldable pub hex_value : ℕ → ℕ
hex_value b = cond (ltb b 48) 16 (cond (ltb b 58) (b - 48) (cond (ltb b 97) 16 (cond (ltb b 103) (b - 87) 16)))

-- whether a text is bytes in hex
unfoldable pub is_hex : List ℕ → Bool
is_hex s = eqb (length s % 2) 0 && list_all (λ b. ltb (hex_value b) 16) s

-- the bytes that it says
unfoldable pub unhex : List ℕ → List ℕ
unhex [] = []
unhex (a ∷ []) = []
unhex (a ∷ b ∷ s) = (hex_value a * 16 + hex_value b) ∷ unhex s

-- bytes in hex; `hex_digit_ascii`, of the crate io, is the digit of a value below 16
unfoldable pub hex_text : List ℕ → List ℕ
hex_text [] = []
hex_text (b ∷ s) = hex_digit_ascii (b / 16) ∷ hex_digit_ascii (b % 16) ∷ hex_text s
