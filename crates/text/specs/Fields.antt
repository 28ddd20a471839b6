-- What reading a field answers.
use Rattle.std.specs.Prelude.{List, cond, ℕ, ltb, length, Result, Ok, Err}
use Rattle.codec.specs.Answers.{Said, said, unsaid}
use Rattle.codec.specs.Format.{over}
use Rattle.text.specs.Hex.{is_hex, unhex}
use Rattle.text.specs.declared.HexError.{HexError}
use Rattle.text.specs.declared.HexError.TheVariants.{NoHex, NoRoom}

-- how many bytes in hex are read into a buffer of `room` bytes; 6 where the text is no hex, 4 where they do not fit
unfoldable pub read_hex : List ℕ → ℕ → Said ℕ
read_hex s room = cond (is_hex s) (cond (ltb room (length (unhex s))) (unsaid 4) (said (length (unhex s)))) (unsaid 6)

-- the numbers of the code's refusals
abbrev pub hex_number : HexError → ℕ
hex_number NoHex = 6
hex_number NoRoom = 4

-- what the code's answer stands for
abbrev pub hex_answer : Result ℕ HexError → Said ℕ
hex_answer (Ok n) = said n
hex_answer (Err e) = unsaid (hex_number e)

-- the buffer afterwards: as it was where the text is refused
unfoldable pub hex_buffer : List ℕ → List ℕ → List ℕ
hex_buffer s buf = cond (is_hex s) (cond (ltb (length buf) (length (unhex s))) buf (over (unhex s) buf)) buf
