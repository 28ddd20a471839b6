-- The bytes of a message, a lent buffer or a text.
use Rattle.std.specs.Prelude.{List, ℕ, take, drop}
use Rattle.case_text.specs.declared.texts.Bytes.{Bytes}
use Rattle.case_text.specs.declared.texts.Text.{Text}
use Rattle.case_text.specs.declared.Message.{Message}
use Rattle.case_text.specs.declared.MessageIn.{MessageIn}

abbrev pub bytes_of : Bytes → List ℕ
bytes_of b = take b.len b.bytes

abbrev pub text_of : Text → List ℕ
text_of t = t.bytes.now

-- those of a message that are read
abbrev pub rest_of : Message → List ℕ
rest_of m = drop m.start (bytes_of m.bytes)

-- the same of a message in a buffer
abbrev pub rest_in : MessageIn → List ℕ → List ℕ
rest_in m buffer = drop m.start (take m.len buffer)
