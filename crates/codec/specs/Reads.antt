-- What a reader's laws say. They are relative to a relation W: `W a e` says that the bytes e stand for the value a.
use Rattle.std.specs.Prelude.{◌≡◌, List, ◌++◌, ℕ, ◌≤◌, ◌<◌, length, take}
use Rattle.codec.specs.Answers.{accepted, refused, AllBytes}
use Rattle.codec.specs.Reader.{Reader}

-- the bytes e are read back as the value a, whatever follows; cut short anywhere they are 1
pub record ReadsAs {A : Type 0} (r : Reader A) (a : A) (e : List ℕ) : Type 0 where
  pub complete : (t : List ℕ) → r (e ++ t) ≡ accepted a (length e)
  pub cut : (k : ℕ) → k < length e → r (take k e) ≡ refused 1

-- bytes that stand for a value are read back as it, whatever follows; cut short anywhere they are 1. Lenient readers have this law
pub record ReadsBack {A : Type 0} (r : Reader A) (W : A → List ℕ → Type 0) : Type 0 where
  pub complete : (a : A) (e : List ℕ) → W a e → (t : List ℕ) → r (e ++ t) ≡ accepted a (length e)
  pub cut : (a : A) (e : List ℕ) → W a e → (k : ℕ) → k < length e → r (take k e) ≡ refused 1

-- and nothing else is read. Strict readers have this law
pub record Reads {A : Type 0} (r : Reader A) (W : A → List ℕ → Type 0) : Type 0 where
  pub sound : (s : List ℕ) (a : A) (n : ℕ) → AllBytes s → r s ≡ accepted a n → (n ≤ length s) × W a (take n s)
  pub back : ReadsBack r W

-- q asks less than p: what p accepts q accepts, with the same value and length, and where p ends early q does
pub record Relaxes {A : Type 0} (p q : Reader A) : Type 0 where
  pub accepts : (s : List ℕ) (a : A) (n : ℕ) → p s ≡ accepted a n → q s ≡ accepted a n
  pub ends : (s : List ℕ) → p s ≡ refused 1 → q s ≡ refused 1

-- no more bytes are consumed than there are
pub record Bounded {A : Type 0} (r : Reader A) : Type 0 where
  pub bound : (s : List ℕ) (a : A) (n : ℕ) → r s ≡ accepted a n → n ≤ length s

-- every value read has the fact P, in whatever form it was written
pub record Yields {A : Type 0} (r : Reader A) (P : A → Type 0) : Type 0 where
  pub holds : (s : List ℕ) (a : A) (n : ℕ) → AllBytes s → r s ≡ accepted a n → P a
