-- Worked lines: the smallest texts, and the limits on both sides.
use Rattle.codec.proofs.Prelude.{◌≡◌, refl, [], ◌∷◌, ◌+◌, ◌-◌, ◌*◌, replicate}
use Rattle.text.specs.Parts.{parts}
use Rattle.text.specs.Hex.{is_hex, unhex, hex_text, hex_value}
use Rattle.path.specs.Limits.{max_component_length, max_component_count, path_ok}
use Rattle.path.specs.Record.{path_from}
use Rattle.path_text.specs.PathText.{tail_text, path_text, read_field, refused_field, field_of, read_texts, read_components_text, read_path_text}

record Cases : Type 0 where
  dash : read_path_text (45 ∷ []) ≡ read_field (path_from [])
  empty : read_path_text [] ≡ read_field (path_from ([] ∷ []))
  slash : read_path_text (47 ∷ []) ≡ read_field (path_from ([] ∷ [] ∷ []))
  two : read_path_text (54 ∷ 49 ∷ 47 ∷ 54 ∷ 102 ∷ []) ≡ read_field (path_from ((97 ∷ []) ∷ (111 ∷ []) ∷ []))
  upper : read_path_text (54 ∷ 70 ∷ []) ≡ refused_field
  odd : read_path_text (54 ∷ []) ≡ refused_field
  dash_more : read_path_text (45 ∷ 47 ∷ []) ≡ refused_field
  dash_components : read_components_text (45 ∷ []) ≡ refused_field
  long : read_path_text (replicate (2 * (max_component_length + 1)) 48) ≡ refused_field
  most : read_path_text (replicate (2 * max_component_length) 48) ≡ read_field (path_from (replicate max_component_length 0 ∷ []))
  many : read_path_text (replicate max_component_count 47) ≡ refused_field
  many_most : read_path_text (replicate (max_component_count - 1) 47) ≡ read_field (path_from (replicate max_component_count []))
  print : path_text ((97 ∷ []) ∷ [] ∷ (111 ∷ []) ∷ []) ≡ 54 ∷ 49 ∷ 47 ∷ 47 ∷ 54 ∷ 102 ∷ []
  print_one : path_text ([] ∷ []) ≡ []
  print_none : path_text [] ≡ 45 ∷ []

cases : Cases
unfolding read_path_text read_components_text read_texts field_of path_ok parts is_hex unhex hex_text hex_value path_text tail_text
cases =
    record { dash = refl; empty = refl; slash = refl; two = refl; upper = refl; odd = refl; dash_more = refl; dash_components = refl; long = refl; most = refl; many = refl; many_most = refl; print = refl; print_one = refl; print_none = refl }
