-- docs/ABI.md: what a call tells and leaves. The code is 0, or the number of a refusal; beside one the count is 0, and what was lent is left as it was.
use Rattle.std.specs.Prelude.{◌≡◌, List, ℕ, length, Result}
use Rattle.codec.specs.declared.DecodeError.{DecodeError}
use Rattle.codec.specs.Answers.{Answer, accepted, refused, Outcome, wrote, refused_writing, answer_beside}
use Rattle.codec.specs.Reader.{unvalued}
use Rattle.codec.specs.Format.{Format, write_answer, write_buffer}

-- ---- writing, and written length
abbrev pub code_of : Outcome → ℕ
code_of (wrote n) = 0
code_of (refused_writing k) = k

abbrev pub count_of : Outcome → ℕ
count_of (wrote n) = n
count_of (refused_writing k) = 0

pub record Told (x : Outcome) (r n : ℕ) : Type 0 where
  pub code : r ≡ code_of x
  pub count : n ≡ count_of x

pub record Encodes {A : Type 0} (f : Format A) (v : A) (lent left : List ℕ) (r n : ℕ) : Type 0 where
  pub told : Told (write_answer f v (length lent)) r n
  pub buffer : left ≡ write_buffer f v lent

-- ---- reading
abbrev pub read_code : {A : Type 0} → Answer A → ℕ
read_code (accepted a n) = 0
read_code (refused k) = k

abbrev pub read_count : {A : Type 0} → Answer A → ℕ
read_count (accepted a n) = n
read_count (refused k) = 0

-- what stands where the value goes: the value as it is stored, or what stood there
abbrev pub stored_or : {A B : Type 0} → (A → B) → Answer A → B → B
stored_or store (accepted a n) lent = store a
stored_or store (refused k) lent = lent

pub record Stores {A B : Type 0} (store : A → B) (x : Answer A) (lent left : B) (r n : ℕ) : Type 0 where
  pub code : r ≡ read_code x
  pub count : n ≡ read_count x
  pub value : left ≡ stored_or store x lent

-- the same of a reader of the code that stores its value, before its answer is told
pub record Leaves {A B : Type 0} (store : A → B) (x : Answer A) (lent left : B) (r : Result ℕ DecodeError) : Type 0 where
  pub answer : answer_beside r tt ≡ unvalued x
  pub value : left ≡ stored_or store x lent
