-- A strict reading made of a lenient one and of writing. What the lenient one refuses is refused with the same number; what it takes is 2 unless the bytes
-- consumed are those that writing the value gives.
use Rattle.std.specs.Prelude.{◌≡◌, ◌↔◌, List, Bool, true, false, ◌&&◌, ℕ, take}
use Rattle.codec.specs.Answers.{accepted, refused, AllBytes}
use Rattle.codec.specs.Bytes.{same_bytes}
use Rattle.codec.specs.Format.{Format, Verdict, allowed, refused_value}
use Rattle.codec.specs.Reader.{Reader, bind, passed}

abbrev pub allows : Verdict → Bool
allows allowed = true
allows (refused_value k) = false

-- writing is not refused, and gives these bytes
unfoldable pub is_writing : {A : Type 0} → Format A → A → List ℕ → Bool
is_writing f v e = allows (f.check v) && same_bytes (f.encode v) e

unfoldable pub canonic_by : {A : Type 0} → Format A → Reader A → Reader A
canonic_by f lenient s = bind (lenient s) (λ v n. passed (is_writing f v (take n s)) (accepted v n))

-- strict reading accepts exactly what lenient reading accepts and writing gives again; the value and the length are the same
pub record ByRewriting {A : Type 0} (f : Format A) (strict lenient : Reader A) : Type 0 where
  pub exactly : (s : List ℕ) (v : A) (n : ℕ) → AllBytes s
      → strict s ≡ accepted v n ↔ ((lenient s ≡ accepted v n) × (f.check v ≡ allowed) × (f.encode v ≡ take n s))

-- and refuses with the number of lenient reading where that refuses, else with 2
pub record Refuses {A : Type 0} (f : Format A) (strict lenient : Reader A) : Type 0 where
  pub same : (s : List ℕ) (k : ℕ) → lenient s ≡ refused k → strict s ≡ refused k
  pub other : (s : List ℕ) (v : A) (n : ℕ) → lenient s ≡ accepted v n → ((f.check v ≡ allowed) × (f.encode v ≡ take n s) → ⊥) → strict s ≡ refused 2
