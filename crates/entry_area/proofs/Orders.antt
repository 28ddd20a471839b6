-- Orders of checks that the laws cannot see, since they tell 1 from 2: computed from the definition, by the names of widths.
use Rattle.codec.proofs.Prelude.{◌≡◌, refl, [], ◌∷◌, ◌++◌, Bool, true, false, ℕ}
use Rattle.codec.specs.Answers.{refused}
use Rattle.codec.specs.Bytes.{zero_id}
use Rattle.std.specs.Prelude.{Option, Some, None}
use mathlib.Core.List.{List}
use Rattle.compact_u64.specs.Number.{inline_limit, min_tag, encoding_width, number_bytes, number_said, standalone_bytes, read_number}
use Rattle.path.specs.Prefix.{is_prefix}
use Rattle.path_suffix.specs.Suffix.{sizes_from, sizes_bytes, read_sizes, read_components, read_suffix}
use Rattle.path_relative.specs.Against.{join_ok, read_against}
use Rattle.grouping.specs.declared.RangeEnd.TheVariants.{Open}
use Rattle.grouping.specs.Area.{AreaValue}
use Rattle.entry_area_end.specs.Header.{time_tag_width, length_tag_width, pack_header}
use Rattle.entry_area.specs.Entry.{read_rest, read_parts, read_entry}

-- all times of a subspace, or of any, under a path
abbrev reference : Option (List ℕ) → List (List ℕ) → AreaValue
reference s path = record { subspace = s; path = path; times = record { start = 0; end = Open } }

-- a header; the time and the payload length take a byte each
abbrev head : Bool → ℕ → ℕ
head written spare = pack_header (record { id_written = written; time_added = true; time_tag = inline_limit time_tag_width; length_tag = inline_limit length_tag_width; spare = spare })

-- in either mode spare bits are refused before the id is missed
spare_first : (canonic : Bool) → read_entry canonic zero_id (reference None []) (head true 1 ∷ []) ≡ refused 2
unfolding read_entry
spare_first canonic = refl

-- whether the id is written is tested before the id is missed, and before the path where none is to be written
id-flag_first : (canonic : Bool) → read_entry canonic zero_id (reference None []) (head false 0 ∷ []) ≡ refused 2
unfolding read_entry read_parts
id-flag_first canonic = refl

own_id-flag_first : (canonic : Bool) → read_entry canonic zero_id (reference (Some zero_id) []) (head true 0 ∷ []) ≡ refused 2
unfolding read_entry read_parts
own_id-flag_first canonic = refl

-- a path outside the area is refused before the time is missed
prefix_first : read_entry false zero_id (reference (Some zero_id) ((97 ∷ []) ∷ [])) (head false 0 ∷ (standalone_bytes 0 ++ sizes_bytes (sizes_from 0 0))) ≡ refused 2
unfolding read_entry read_parts read_rest is_prefix read_against join_ok read_suffix read_sizes read_components read_number number_said encoding_width min_tag number_bytes sizes_bytes
prefix_first = refl
