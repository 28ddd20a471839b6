-- An id or a digest as text: 64 hexadecimal digits.
use Rattle.std.specs.Prelude.{List, cond, ℕ, eqb, length, Option, Some, None}
use Rattle.text.specs.Hex.{is_hex, unhex}

unfoldable pub read_id_text : List ℕ → Option (List ℕ)
read_id_text s = cond (is_hex s) (cond (eqb (length s) 64) (Some (unhex s)) None) None
