-- docs/FORMAT.md, "Lists of writings": strict reading and writing determine each other, for single values, and for whole lists of writings in one lent buffer.
use Rattle.std.specs.Prelude.{◌≡◌, ◌↔◌, List, ◌++◌, ℕ, ◌<◌, length, take, drop}
use Rattle.codec.specs.Answers.{accepted, refused, AllBytes}
use Rattle.codec.specs.Format.{Format, Valid}
use Rattle.codec.specs.Reader.{Reader}
use Rattle.codec.specs.Lawful.{Begins}
use Rattle.codec.specs.Writings.{All, write_all, bytes_of, Made}

-- the third of the operator's demands, which head docs/STATEMENTS.md
pub record Demand3 {A : Type 0} (Typed : A → Type 0) (f : Format A) (strict : Reader A) : Type 0 where
  -- at any start in any message, also past its end: accepted exactly when the bytes there begin with a writing of the value
  pub accepts : (s : List ℕ) (at : ℕ) (v : A) (n : ℕ) → AllBytes s → strict (drop at s) ≡ accepted v n ↔ Begins Typed f (drop at s) v n
  -- at most one value and length fits
  pub unique : (s : List ℕ) (v w : A) (n m : ℕ) → Begins Typed f s v n → Begins Typed f s w m → (v ≡ w) × (n ≡ m)
  -- whatever follows, the answer is the same
  pub follows : (s t : List ℕ) (v : A) (n : ℕ) → AllBytes s → strict s ≡ accepted v n → strict (s ++ t) ≡ accepted v n
  -- cut short anywhere
  pub short : (v : A) → Valid Typed f v → (k : ℕ) → k < length (f.encode v) → strict (take k (f.encode v)) ≡ refused 1
  -- every list of writings, refused ones included, in a lent buffer of any length and content
  pub lists : (vs : List A) → All Typed vs → (lent : List ℕ) → Made f strict vs lent (write_all f vs 0 lent)
  -- two different lists of values that writing does not refuse never make the same bytes
  pub distinct : (vs ws : List A) → All (Valid Typed f) vs → All (Valid Typed f) ws → bytes_of f vs ≡ bytes_of f ws → vs ≡ ws
