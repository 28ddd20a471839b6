-- The relations of the readers of specs/Reader.antt: which bytes stand for a value.
use mathlib.Core.Path.{◌≡◌}
use mathlib.Core.List.{List, [], ◌∷◌, ◌++◌}
use mathlib.Core.Bool.{Bool, true, false}
use Prim.Native.Nat.{ℕ, ◌<◌}
use lib.ListN.{length}
use Rattle.codec.specs.Answers.{AllBytes}

-- `give a`
abbrev pub Given : {A : Type 0} → A → A → List ℕ → Type 0
Given a b e = (a ≡ b) × (e ≡ [])

-- `one_byte`
abbrev pub OneByte : ℕ → List ℕ → Type 0
OneByte b e = (b < 256) × (e ≡ b ∷ [])

-- `some_bytes n`
abbrev pub SomeBytes : ℕ → List ℕ → List ℕ → Type 0
SomeBytes n l e = (length l ≡ n) × AllBytes l × (e ≡ l)

-- `and_then`: bytes for the first value, then bytes for the second
pub record Joined {A B : Type 0} (W : A → List ℕ → Type 0) (U : A → B → List ℕ → Type 0) (b : B) (e : List ℕ) : Type 0 where
  pub value : A
  pub front : List ℕ
  pub rear : List ℕ
  pub whole : e ≡ front ++ rear
  pub first : W value front
  pub second : U value b rear

-- `guard` and `checked`
abbrev pub Tested : {A : Type 0} → (A → Bool) → (A → List ℕ → Type 0) → A → List ℕ → Type 0
Tested t W a e = (t a ≡ true) × W a e

-- `mapped`
pub record Mapped {A B : Type 0} (f : A → B) (W : A → List ℕ → Type 0) (b : B) (e : List ℕ) : Type 0 where
  pub value : A
  pub named : f value ≡ b
  pub stands : W value e

-- `choose`
abbrev pub Chosen : {A : Type 0} → Bool → (A → List ℕ → Type 0) → (A → List ℕ → Type 0) → A → List ℕ → Type 0
Chosen true W U a e = W a e
Chosen false W U a e = U a e

abbrev pub HeaderAs : {H : Type 0} → (H → Type 0) → (H → ℕ) → H → List ℕ → Type 0
HeaderAs Fits pack h e = Fits h × (e ≡ pack h ∷ [])
