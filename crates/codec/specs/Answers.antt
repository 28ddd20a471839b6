-- What functions answer, with the numbers of docs/FORMAT.md, "Refusals".
use Rattle.std.specs.Prelude.{◌≡◌, List, ℕ, ◌<◌, get_or, Result, Ok, Err}
use Rattle.codec.specs.declared.Decoded.{Decoded}
use Rattle.codec.specs.declared.DecodeError.{DecodeError}
use Rattle.codec.specs.declared.DecodeError.TheVariants as decoding
use Rattle.codec.specs.declared.EncodeError.{EncodeError}
use Rattle.codec.specs.declared.EncodeError.TheVariants as encoding
use Rattle.codec.specs.declared.Malformed.{Malformed}

-- a reading: the value and the bytes consumed, or a refusal's number
pub data Answer (A : Type 0) : Type 0 where
  accepted : A → ℕ → Answer A
  refused : ℕ → Answer A

-- a writing: the length written, or a refusal's number
pub data Outcome : Type 0 where
  wrote : ℕ → Outcome
  refused_writing : ℕ → Outcome

-- what any other function says, or a refusal's number
pub data Said (A : Type 0) : Type 0 where
  said : A → Said A
  unsaid : ℕ → Said A

-- every element is a byte: the form in which a slice of u8 gives it
abbrev pub AllBytes : List ℕ → Type 0
AllBytes s = (i : ℕ) → get_or s i 0 < 256

-- the numbers of the code's refusals
abbrev pub decode_number : DecodeError → ℕ
decode_number decoding.EndOfInput = 1
decode_number decoding.TheirFault = 2
decode_number decoding.Malformed = 5

abbrev pub encode_number : EncodeError → ℕ
encode_number encoding.Outside = 3
encode_number encoding.NoRoom = 4
encode_number encoding.Malformed = 5

-- what a reader's answer stands for
abbrev pub answer_of : {A : Type 0} → Result (Decoded A) DecodeError → Answer A
answer_of (Ok d) = accepted d.value d.consumed
answer_of (Err e) = refused (decode_number e)

-- the same of a reader that leaves its value `a` in a lent record, and answers how many bytes it took
abbrev pub answer_beside : {A : Type 0} → Result ℕ DecodeError → A → Answer A
answer_beside (Ok n) a = accepted a n
answer_beside (Err e) a = refused (decode_number e)

-- what such a reader leaves: the value, and `blank` beside a refusal
abbrev pub value_in : {A : Type 0} → A → Answer A → A
value_in blank (accepted a n) = a
value_in blank (refused k) = blank

-- an answer r with a beside it is the answer x
pub record Gives {A : Type 0} (blank : A) (r : Result ℕ DecodeError) (a : A) (x : Answer A) : Type 0 where
  pub answer : answer_beside r a ≡ x
  pub value : a ≡ value_in blank x

-- what a writer's answer stands for
abbrev pub outcome_of : Result ℕ EncodeError → Outcome
outcome_of (Ok n) = wrote n
outcome_of (Err e) = refused_writing (encode_number e)

-- what any other answer stands for
abbrev pub said_of : {A : Type 0} → Result A Malformed → Said A
said_of (Ok a) = said a
said_of (Err e) = unsaid 5
