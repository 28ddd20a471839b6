-- A path as a list of components, each a list of bytes, and its limits: docs/FORMAT.md, "Paths".
use Rattle.std.specs.Prelude.{List, [], ◌∷◌, Bool, true, ◌&&◌, ℕ, ◌+◌, ◌≤◌, leb, length}
use Rattle.codec.specs.Answers.{AllBytes}
use Rattle.codec.specs.Writings.{All}

abbrev pub max_component_length : ℕ
max_component_length = 300

abbrev pub max_component_count : ℕ
max_component_count = 20

abbrev pub max_path_length : ℕ
max_path_length = 600

-- the bytes of all components
abbrev pub total_of : List (List ℕ) → ℕ
total_of [] = 0
total_of (c ∷ cs) = length c + total_of cs

-- the limits on the whole, and on each component
abbrev pub limits : ℕ → ℕ → Bool
limits total count = leb total max_path_length && leb count max_component_count

abbrev pub all_short : List (List ℕ) → Bool
all_short [] = true
all_short (c ∷ cs) = leb (length c) max_component_length && all_short cs

unfoldable pub path_ok : List (List ℕ) → Bool
path_ok cs = limits (total_of cs) (length cs) && all_short cs

-- the same as facts
pub record Component (c : List ℕ) : Type 0 where
  pub short : length c ≤ max_component_length
  pub bytes : AllBytes c

pub record PathOk (cs : List (List ℕ)) : Type 0 where
  pub total : total_of cs ≤ max_path_length
  pub count : length cs ≤ max_component_count
  pub all : All Component cs

-- what the language says of components: every element is a byte
abbrev pub TypedComponents : List (List ℕ) → Type 0
TypedComponents = All AllBytes
