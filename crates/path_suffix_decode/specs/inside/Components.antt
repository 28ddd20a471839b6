-- What reading components into a lent record is stated by.
use Rattle.std.specs.Prelude.{List, [], ◌∷◌, ◌++◌, Bool, ℕ, ◌≤◌, ◌+◌, ◌≡◌}
use Rattle.path.specs.Limits.{max_component_count, max_path_length, limits}
use Rattle.path_suffix.specs.Suffix.{read_last, read_components}
use Rattle.codec.specs.Reader.{Reader, guard, mapped}
use Rattle.path.specs.declared.PathBuilder.{PathBuilder}
use Rattle.path.specs.Record.{components_of, path_from}
use Rattle.path.specs.Flat.{path_flat, path_in}
use Rattle.path.specs.Builder.{built, built_from}

-- a builder of the record's components, and room for count more of total bytes
pub record Ready (b : PathBuilder) (s : List ℕ) (count total : ℕ) : Type 0 where
  pub made : built b s ≡ built_from (components_of (path_in s))
  pub few : b.count + count ≤ max_component_count
  pub fits : b.total + total ≤ max_path_length

-- the record that reading components after others leaves
unfoldable pub read_into : Bool → List (List ℕ) → ℕ → ℕ → Reader (List ℕ)
read_into canonic cs count total = mapped (λ ds. path_flat (path_from (cs ++ ds))) (read_components canonic count 0 total)

unfoldable pub read_within : Bool → PathBuilder → List (List ℕ) → ℕ → ℕ → Reader (List ℕ)
read_within canonic b cs total count = guard (limits (b.total + total) (b.count + count)) (read_into canonic cs count total)

-- and the last of them
unfoldable pub last_into : List (List ℕ) → ℕ → ℕ → Reader (List ℕ)
last_into cs used total = mapped (λ c. path_flat (path_from (cs ++ (c ∷ [])))) (read_last used total)
