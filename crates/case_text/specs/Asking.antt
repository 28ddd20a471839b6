-- What a line asks for, whatever its kind: all of it but its reference and its value.
use Rattle.std.specs.Prelude.{List, Bool, true, false, ℕ, ◌+◌, ◌≤◌, take, Option, Some}
use Rattle.case_text.specs.declared.Op.{Op}
use Rattle.case_text.specs.declared.Op.TheVariants as op
use Rattle.case_text.specs.declared.Asked.{Asked}
use Rattle.case_text.specs.declared.Asked.TheVariants as asked
use Rattle.case_text.specs.declared.AskedIn.{AskedIn}
use Rattle.case_text.specs.declared.AskedIn.TheVariants as asked_in
use Rattle.case_text.specs.Bytes.{bytes_of}
use Rattle.case_text.specs.Limits.{max_bytes}
use Rattle.case_text.specs.Fields.{field, ◌>>=◌, exactly, decimal_field, hex_field_in, op_of}

-- reading, strictly or not, from a start on in a message; writing into a lent buffer; measuring
pub data Request : Type 0 where
  read : Bool → ℕ → List ℕ → Request
  write : List ℕ → Request
  measure : Request

-- what the code holds of it
abbrev pub request_of : Asked → Request
request_of (asked.Read m) = read m.canonic m.start (bytes_of m.bytes)
request_of (asked.Write lent) = write (bytes_of lent)
request_of asked.Length = measure

-- the same whose bytes stand in a buffer
abbrev pub request_in : List ℕ → AskedIn → Request
request_in buffer (asked_in.Read m) = read m.canonic m.start (take m.len buffer)
request_in buffer (asked_in.Write n) = write (take n buffer)
request_in buffer asked_in.Length = measure

-- these bytes lie in a buffer of so many
abbrev pub AskedInside : ℕ → AskedIn → Type 0
AskedInside room (asked_in.Read m) = m.len ≤ room
AskedInside room (asked_in.Write n) = n ≤ room
AskedInside room asked_in.Length = Unit {0}

-- start and message from the i-th field on; the message has at most `room` bytes
abbrev pub request_read_in : ℕ → ℕ → Bool → List ℕ → Option Request
request_read_in room i canonic line = exactly (i + 2) line do
  start ← decimal_field i line
  message ← hex_field_in room (i + 1) line
  Some (read canonic start message)

-- the lent buffer, the j-th field and the last
abbrev pub request_write_in : ℕ → ℕ → List ℕ → Option Request
request_write_in room j line = exactly (j + 1) line do
  lent ← hex_field_in room j line
  Some (write lent)

-- by the operation; j is the field after the value
abbrev pub request_by_in : ℕ → ℕ → ℕ → Op → List ℕ → Option Request
request_by_in room i j op.Strict line = request_read_in room i true line
request_by_in room i j op.Lenient line = request_read_in room i false line
request_by_in room i j op.Write line = request_write_in room j line
request_by_in room i j op.Length line = exactly j line (Some measure)

abbrev pub asking_in : ℕ → ℕ → ℕ → List ℕ → Option Request
asking_in room i j line = do
  op ← op_of (field 1 line)
  request_by_in room i j op line

-- ---- the same of messages and lent buffers that a line can hold
abbrev pub request_read : ℕ → Bool → List ℕ → Option Request
request_read i canonic line = request_read_in max_bytes i canonic line

abbrev pub request_write : ℕ → List ℕ → Option Request
request_write j line = request_write_in max_bytes j line

abbrev pub request_by : ℕ → ℕ → Op → List ℕ → Option Request
request_by i j op line = request_by_in max_bytes i j op line

abbrev pub asking : ℕ → ℕ → List ℕ → Option Request
asking i j line = asking_in max_bytes i j line
