-- docs/FORMAT.md, "Refusals": what writing a value gives: the tests 5 and 3, the bytes, and what stands in the lent buffer afterwards.
use Rattle.std.specs.Prelude.{◌≡◌, List, ◌++◌, Bool, true, false, cond, ℕ, leb, length, drop, Result}
use Rattle.codec.specs.Answers.{Outcome, wrote, refused_writing, outcome_of}
use Rattle.codec.specs.declared.EncodeError.{EncodeError}

-- what the tests before the length say of a value: 5, then 3
pub data Verdict : Type 0 where
  allowed : Verdict
  refused_value : ℕ → Verdict

-- well formed, else 5; inside the reference, else 3
abbrev pub verdict_by : Bool → Bool → Verdict
verdict_by false inside = refused_value 5
verdict_by true false = refused_value 3
verdict_by true true = allowed

-- how values of a type are written, against one reference
pub record Format (A : Type 0) : Type 0 where
  pub check : A → Verdict
  pub encode : A → List ℕ

-- what the language says of every value of a type, and no test of the program does (an array's length, an element's size), is `Typed`;
-- a value that writing does not refuse, room aside
pub record Valid {A : Type 0} (Typed : A → Type 0) (f : Format A) (v : A) : Type 0 where
  pub typed : Typed v
  pub allows : f.check v ≡ allowed

-- the bytes e are what writing the value gives
pub record Writes {A : Type 0} (Typed : A → Type 0) (f : Format A) (v : A) (e : List ℕ) : Type 0 where
  pub valid : Valid Typed f v
  pub bytes : e ≡ f.encode v

-- bytes over the start of a buffer that is long enough
abbrev pub over : List ℕ → List ℕ → List ℕ
over bs lent = bs ++ drop (length bs) lent

-- the length of what is written after the verdict
abbrev pub length_by : Verdict → ℕ → Outcome
length_by (refused_value k) n = refused_writing k
length_by allowed n = wrote n

-- a length that has to fit into the room, else 4
abbrev pub in_room : Outcome → ℕ → Outcome
in_room (refused_writing k) room = refused_writing k
in_room (wrote n) room = cond (leb n room) (wrote n) (refused_writing 4)

abbrev pub buffer_by : Outcome → List ℕ → List ℕ → List ℕ
buffer_by (wrote n) bs lent = over bs lent
buffer_by (refused_writing k) bs lent = lent

-- writing the bytes bs into a lent buffer, after the verdict on their value: the answer, and the buffer afterwards
unfoldable pub put_answer : Verdict → List ℕ → ℕ → Outcome
put_answer d bs room = in_room (length_by d (length bs)) room

unfoldable pub put_buffer : Verdict → List ℕ → List ℕ → List ℕ
put_buffer d bs lent = buffer_by (put_answer d bs (length lent)) bs lent

-- writing a value
module _ {A : Type 0} (f : Format A) where
  abbrev pub write_answer : A → ℕ → Outcome
  write_answer v room = put_answer (f.check v) (f.encode v) room

  abbrev pub write_buffer : A → List ℕ → List ℕ
  write_buffer v lent = put_buffer (f.check v) (f.encode v) lent

  -- written length refuses as writing does, 4 aside
  unfoldable pub length_answer : A → Outcome
  length_answer v = length_by (f.check v) (length (f.encode v))

-- what a writer of the value answers, and what it leaves in the lent buffer
pub record WritesInto {A : Type 0} (f : Format A) (v : A) (e : Result ℕ EncodeError) (lent left : List ℕ) : Type 0 where
  pub answer : outcome_of e ≡ write_answer f v (length lent)
  pub buffer : left ≡ write_buffer f v lent

-- the values of a format in another shape: view takes a value to the format's own
abbrev pub reshaped : {A B : Type 0} → Format A → (B → A) → (B → Verdict) → Format B
reshaped f view check = record { check = check; encode = λ b. f.encode (view b) }
