-- A list of writings into one lent buffer, and the strict readings of what it made: docs/FORMAT.md, "Lists of writings".
use Rattle.std.specs.Prelude.{◌≡◌, List, [], ◌∷◌, ◌++◌, map, ℕ, zero, suc, ◌+◌, ◌-◌, ◌≤◌, length, take, drop}
use Rattle.codec.specs.Answers.{Answer, accepted, refused, Outcome, wrote, refused_writing}
use Rattle.codec.specs.Format.{Format, write_answer, write_buffer}
use Rattle.codec.specs.Reader.{Reader}

-- a fact of every element
abbrev pub All : {A : Type 0} → (A → Type 0) → List A → Type 0
All P [] = Unit {0}
All P (v ∷ vs) = P v × All P vs

-- what one writing's answer does to the place, to the room that is left, and to the values accepted so far
abbrev pub moved : Outcome → ℕ → ℕ
moved (wrote n) at = at + n
moved (refused_writing k) at = at

abbrev pub left : Outcome → ℕ → ℕ
left (wrote n) room = room - n
left (refused_writing k) room = room

abbrev pub add_written {ℓ} : {A : Type ℓ} → Outcome → A → List A → List A
add_written (wrote n) v vs = v ∷ vs
add_written (refused_writing k) v vs = vs

-- what a list of writings leaves
pub record Writings : Type 0 where
  pub answers : List Outcome
  pub place : ℕ
  pub buffer : List ℕ

module _ {A : Type 0} (f : Format A) where
  -- the calls, each lent the buffer as the last one left it, from the place on
  abbrev pub write_all : List A → ℕ → List ℕ → Writings
  write_all [] at buf = record { answers = []; place = at; buffer = buf }
  write_all (v ∷ vs) at buf =
      let o = write_answer f v (length (drop at buf)) in
      let r = write_all vs (moved o at) (take at buf ++ write_buffer f v (drop at buf)) in
      record { answers = o ∷ r.answers; place = r.place; buffer = r.buffer }

  -- the answers and the accepted values, by the room alone
  abbrev pub answers_of : List A → ℕ → List Outcome
  answers_of [] room = []
  answers_of (v ∷ vs) room = write_answer f v room ∷ answers_of vs (left (write_answer f v room) room)

  abbrev pub accepted_of : List A → ℕ → List A
  accepted_of [] room = []
  accepted_of (v ∷ vs) room = add_written (write_answer f v room) v (accepted_of vs (left (write_answer f v room) room))

  -- the bytes that values make, end to end
  abbrev pub bytes_of : List A → List ℕ
  bytes_of [] = []
  bytes_of (v ∷ vs) = f.encode v ++ bytes_of vs

  -- the answer of reading a value that stands there whole
  abbrev pub shown : A → Answer A
  shown v = accepted v (length (f.encode v))

-- the next reading starts where the last ended; a refusal ends them
abbrev pub read_on : {A : Type 0} → Answer A → (ℕ → List (Answer A)) → List (Answer A)
read_on (accepted v n) next = accepted v n ∷ next n
read_on (refused k) next = refused k ∷ []

-- n readings of a message, the first from a place
abbrev pub read_all : {A : Type 0} → Reader A → ℕ → List ℕ → ℕ → List (Answer A)
read_all r zero s at = []
read_all r (suc n) s at = read_on (r (drop at s)) (λ k. read_all r n s (at + k))

-- the one claim about a list of writings, w being what they left in the lent buffer
pub record Made {A : Type 0} (f : Format A) (strict : Reader A) (vs : List A) (lent : List ℕ) (w : Writings) : Type 0 where
  pub answers : w.answers ≡ answers_of f vs (length lent)
  -- the bytes before the place, all others as lent
  pub before : take w.place w.buffer ≡ bytes_of f (accepted_of f vs (length lent))
  pub after : drop w.place w.buffer ≡ drop w.place lent
  pub place : w.place ≡ length (bytes_of f (accepted_of f vs (length lent)))
  pub size : length w.buffer ≡ length lent
  pub inside : w.place ≤ length lent
  -- as many readings as accepted values, whatever bytes follow the place
  pub read : (t : List ℕ) → read_all strict (length (accepted_of f vs (length lent))) (take w.place w.buffer ++ t) 0 ≡ map (shown f) (accepted_of f vs (length lent))
  -- one more, the message ending at the place
  pub ended : read_all strict (length (accepted_of f vs (length lent)) + 1) (take w.place w.buffer) 0 ≡ map (shown f) (accepted_of f vs (length lent)) ++ (refused 1 ∷ [])
