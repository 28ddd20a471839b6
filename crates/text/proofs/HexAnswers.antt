-- What an answer of reading bytes in hex says, for its callers.
use Rattle.std.proofs.Common.{◌≡◌, refl, sym, List, [], true, cond, ℕ, ◌<◌, ◌≤◌, arith, eqb, length, take, drop, replicate, Option, Some, None, Result, Ok, Err}
use Rattle.std.proofs.lemmas.Bool.{le-ltb}
use Rattle.std.proofs.lemmas.Bool.Decides.{nat_tests}
use Rattle.std.proofs.lemmas.List.{take_at, drop_all, append-nil}
use Rattle.std.specs.Result.{result_ok}
use Rattle.codec.specs.Answers.{Said, said, unsaid}
use Rattle.text.specs.Hex.{is_hex, unhex}
use Rattle.text.specs.Ids.{read_id_text}
use Rattle.text.specs.Fields.{read_hex, hex_number, hex_answer, hex_buffer}
use Rattle.text.specs.declared.HexError.{HexError}
use Rattle.text.proofs.HexSteps.{is_hex_even}

-- no hex, or more bytes than there is room for
pub hex_refused : (a : List ℕ) (room k : ℕ) → unsaid k ≡ read_hex a room → is_hex a ≡ true → room < length (unhex a)
unfolding read_hex
hex_refused a room k e h = grind (arith, nat_tests)

-- the same of an answer as an Option
pub hex_none : (r : Result ℕ HexError) (a : List ℕ) (room : ℕ) → result_ok r ≡ None → hex_answer r ≡ read_hex a room → is_hex a ≡ true → room < length (unhex a)
hex_none (Ok n) a room none e = absurd (cc)
hex_none (Err x) a room none e = hex_refused a room (hex_number x) e

pub hex_some : (r : Result ℕ HexError) (a : List ℕ) (room n : ℕ) → result_ok r ≡ Some n → hex_answer r ≡ read_hex a room → said n ≡ read_hex a room
hex_some (Ok m) a room n some e = let same : m ≡ n = cc in rw (← same) e
hex_some (Err x) a room n some e = absurd (cc)

module _ (a : List ℕ) (n : ℕ) where
  pub some_bytes_lem : (room : ℕ) → said n ≡ read_hex a room → (is_hex a ≡ true) × (n ≡ length (unhex a)) × (n ≤ room)
  unfolding read_hex
  some_bytes_lem room e = grind (arith, nat_tests)

  pub bytes_are : (buf : List ℕ) → said n ≡ read_hex a (length buf) → take n (hex_buffer a buf) ≡ unhex a
  unfolding hex_buffer
  bytes_are buf e =
      let s = some_bytes_lem (length buf) e in
      rw (s.0, le-ltb (length buf) (length (unhex a)) (omega arith)) (take_at (unhex a) _ n (sym s.1))

-- the id that such an answer gives
abbrev pub id_in : Said ℕ → List ℕ → Option (List ℕ)
id_in (said n) buf = cond (eqb n 32) (Some buf) None
id_in (unsaid k) buf = None

module _ (a buf : List ℕ) (long : length buf ≡ 32) where
  hex_buffer_id : is_hex a ≡ true → length (unhex a) ≡ 32 → hex_buffer a buf ≡ unhex a
  unfolding hex_buffer
  hex_buffer_id h e =
      let d : drop (length (unhex a)) buf ≡ [] = drop_all _ buf (omega arith) in
      rw (h, le-ltb (length buf) (length (unhex a)) (omega arith), d, append-nil)

  id_in_buffer : read_id_text a ≡ id_in (read_hex a 32) (hex_buffer a buf)
  unfolding read_id_text read_hex
  id_in_buffer = grind (arith, nat_tests, hex_buffer_id, is_hex_even a)

pub read_id_text-id_in : (a : List ℕ) → read_id_text a ≡ id_in (read_hex a 32) (hex_buffer a (replicate 32 0))
read_id_text-id_in a = id_in_buffer a (replicate 32 0) refl

pub ruleset ids = (read_id_text-id_in)
