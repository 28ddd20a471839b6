-- What reading a field in hex into a lent buffer answers.
use Rattle.std.proofs.Common.{◌≡◌, refl, List, ℕ, ◌≤◌, length, take, Result, Ok, Err}
use Rattle.std.specs.Option.{option_map, IfSome}
use Rattle.std.specs.Result.{result_ok}
use Rattle.text.specs.Hex.{unhex}
use Rattle.text.specs.Fields.{read_hex, hex_answer, hex_buffer}
use Rattle.text.specs.declared.HexError.{HexError}
use Rattle.text.proofs.HexAnswers.{some_bytes_lem, bytes_are}
use Rattle.case_text.specs.Fields.{told}

module _ (s buffer : List ℕ) where
  pub hex_taken : (r : Result ℕ HexError) → hex_answer r ≡ read_hex s (length buffer)
      → option_map (λ n. take n (hex_buffer s buffer)) (result_ok r) ≡ option_map (λ n. unhex s) (told (read_hex s (length buffer)))
  hex_taken (Ok n) e = rw (bytes_are s n buffer e, ← e) refl
  hex_taken (Err x) e = rw (← e) refl

  pub hex_inside : (r : Result ℕ HexError) → hex_answer r ≡ read_hex s (length buffer) → IfSome (result_ok r) (λ n. n ≤ length buffer)
  hex_inside (Ok n) e = (some_bytes_lem s n (length buffer) e).2
  hex_inside (Err x) e = tt
