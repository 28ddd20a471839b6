-- A format of paths as lists of components: 5 unless well formed, then 3 unless inside.
use mathlib.Core.List.{List}
use mathlib.Core.Bool.{Bool}
use Prim.Native.Nat.{ℕ}
use Rattle.codec.specs.Format.{Format, verdict_by}
use Rattle.path.specs.Limits.{path_ok}

abbrev pub on_components : (List (List ℕ) → Bool) → (List (List ℕ) → List ℕ) → Format (List (List ℕ))
on_components inside encode = record { check = λ cs. verdict_by (path_ok cs) (inside cs); encode = encode }
