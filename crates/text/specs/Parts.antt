-- A text taken apart at a byte.
use Rattle.std.specs.Prelude.{List, [], ℕ, ◌==◌, slice_index_or}
use Rattle.std.specs.List.{slice_split}

-- the parts between the bytes x: one more than there are of these
unfoldable pub parts : ℕ → List ℕ → List (List ℕ)
parts x s = slice_split (λ b. b == x) s

-- the i-th of them, from 0; no bytes where there is none
unfoldable pub part_at : ℕ → ℕ → List ℕ → List ℕ
part_at x i s = slice_index_or (parts x s) i []
