-- The four laws that each record owes. All claims of specs/Demand3.antt follow from them.
use Rattle.std.specs.Prelude.{◌≡◌, List, [], ◌++◌, ℕ, ◌<◌, length, take}
use Rattle.codec.specs.Answers.{accepted, refused, AllBytes}
use Rattle.codec.specs.Format.{Format, Valid}
use Rattle.codec.specs.Reader.{Reader}

-- the bytes s begin with what writing v gives, and n is its length
pub record Begins {A : Type 0} (Typed : A → Type 0) (f : Format A) (s : List ℕ) (v : A) (n : ℕ) : Type 0 where
  pub valid : Valid Typed f v
  pub long : n ≡ length (f.encode v)
  pub bytes : take n s ≡ f.encode v

pub record Lawful {A : Type 0} (Typed : A → Type 0) (f : Format A) (strict : Reader A) : Type 0 where
  -- what is accepted begins with a writing of the value
  pub sound : (s : List ℕ) (v : A) (n : ℕ) → AllBytes s → strict s ≡ accepted v n → Begins Typed f s v n
  -- what is written is accepted, whatever follows
  pub complete : (v : A) → Valid Typed f v → (t : List ℕ) → strict (f.encode v ++ t) ≡ accepted v (length (f.encode v))
  -- cut short anywhere it is 1
  pub cut : (v : A) → Valid Typed f v → (k : ℕ) → k < length (f.encode v) → strict (take k (f.encode v)) ≡ refused 1
  -- no bytes at all are 1
  pub empty : strict [] ≡ refused 1
