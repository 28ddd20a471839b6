-- Leading components that two paths share.
use Rattle.std.specs.Prelude.{List, [], ◌∷◌, Bool, cond, ◌&&◌, ℕ, suc, eqb, length}
use Rattle.codec.specs.Bytes.{same_bytes}

-- how many components the longest common prefix has
abbrev pub shared : List (List ℕ) → List (List ℕ) → ℕ
shared [] p = 0
shared (r ∷ rs) [] = 0
shared (r ∷ rs) (c ∷ p) = cond (same_bytes r c) (suc (shared rs p)) 0

-- the first is a prefix of the second
unfoldable pub is_prefix : List (List ℕ) → List (List ℕ) → Bool
is_prefix r p = eqb (shared r p) (length r)

unfoldable pub same_path : List (List ℕ) → List (List ℕ) → Bool
same_path r p = is_prefix r p && is_prefix p r
