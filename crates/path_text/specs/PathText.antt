-- A path as text: its components in hex, parted by `/` (47); `-` (45) is the path of no components.
use Rattle.std.specs.Prelude.{List, [], ◌∷◌, ◌++◌, map, Bool, cond, ℕ, ◌+◌, ◌-◌, ◌*◌, Option, Some, None}
use Rattle.std.specs.List.{list_all}
use Rattle.codec.specs.Answers.{Said, said, unsaid}
use Rattle.codec.specs.Bytes.{same_bytes}
use Rattle.text.specs.Parts.{parts}
use Rattle.text.specs.Hex.{is_hex, unhex, hex_text}
use Rattle.path.specs.Record.{Path, components_of, path_from, well_formed}
use Rattle.path.specs.declared.Path.{Path as HeldPath}
use Rattle.path.specs.Limits.{max_component_count, max_path_length, path_ok}
use Rattle.path.specs.Flat.{path_flat}
use Rattle.text.specs.Ascii.{ascii}

-- ---- printing

-- how long the text of a path is at most, with a `/` before each component and without the first
abbrev pub max_tail_text : ℕ
max_tail_text = 2 * max_path_length + max_component_count

abbrev pub max_path_text : ℕ
max_path_text = max_tail_text - 1

-- each component after a `/`
unfoldable pub tail_text : List (List ℕ) → List ℕ
tail_text [] = []
tail_text (c ∷ cs) = (47 ∷ hex_text c) ++ tail_text cs

unfoldable pub path_text : List (List ℕ) → List ℕ
path_text [] = ascii "-"
path_text (c ∷ cs) = hex_text c ++ tail_text cs

-- the same of a record: no bytes where it is not well formed
unfoldable pub path_text_of : Path → List ℕ
path_text_of p = cond (well_formed p) (path_text (components_of p)) []

-- ---- reading: a path, held as its bytes, or 6

abbrev pub read_field : Path → Said HeldPath
read_field p = said (record { flat = path_flat p })

abbrev pub refused_field : Said HeldPath
refused_field = unsaid 6

abbrev pub all_hex : List (List ℕ) → Bool
all_hex ts = list_all is_hex ts

-- the path of these components, where they keep the limits
unfoldable pub field_of : List (List ℕ) → Said HeldPath
field_of cs = cond (path_ok cs) (read_field (path_from cs)) refused_field

-- the texts ts of components, after the components cs
unfoldable pub read_texts : List (List ℕ) → List (List ℕ) → Said HeldPath
read_texts cs ts = cond (all_hex ts) (field_of (cs ++ map unhex ts)) refused_field

-- one or more components
unfoldable pub read_components_text : List ℕ → Said HeldPath
read_components_text s = read_texts [] (parts 47 s)

-- a path
unfoldable pub read_path_text : List ℕ → Said HeldPath
read_path_text s = cond (same_bytes s (ascii "-")) (read_field (path_from [])) (read_components_text s)

-- what the code's answer stands for
abbrev pub found_answer : Option HeldPath → Said HeldPath
found_answer (Some p) = said p
found_answer None = unsaid 6
