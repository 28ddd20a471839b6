-- Orders of checks that the laws cannot see, since they tell 1 from 2: computed from the definitions, by the names of widths and limits.
use Rattle.codec.proofs.Prelude.{◌≡◌, refl, List, [], ◌∷◌, ◌++◌, true, false, ℕ, ◌+◌, ◌-◌, replicate}
use Rattle.codec.specs.Answers.{refused}
use Rattle.compact_u64.specs.BigEndian.{big_endian}
use Rattle.compact_u64.specs.Number.{inline_limit, min_tag, encoding_width, number_bytes, number_said, standalone_bytes, read_number}
use Rattle.path.specs.Limits.{max_component_length, max_component_count, max_path_length}
use Rattle.path_suffix.specs.Suffix.{sizes_from, sizes_bytes, read_sizes, read_sized, read_last, read_components, read_suffix}
use Rattle.path_relative.specs.Against.{join_ok, read_against}
use Rattle.path_relative.specs.Extension.{read_extension}

-- a path of one component as long as can be, and the sizes of two components that are too long beside it, and only beside it
abbrev long : List (List ℕ)
long = replicate max_component_length 0 ∷ []

abbrev too_long : List ℕ
too_long = sizes_bytes (sizes_from (max_path_length + 1 - max_component_length) 2)

-- an extension reads its suffix before the joined limits are tested, a path against a path does not
extension_last : read_extension false long too_long ≡ refused 1
unfolding read_extension read_suffix read_sizes read_components read_sized read_last read_number number_said encoding_width min_tag number_bytes sizes_bytes
extension_last = refl

against_first : read_against false long (standalone_bytes 1 ++ too_long) ≡ refused 2
unfolding read_against join_ok read_suffix read_sizes read_components read_sized read_last read_number number_said encoding_width min_tag number_bytes sizes_bytes
against_first = refl

-- the suffix's own limits come before its components
own_limits_first : read_extension false [] (sizes_bytes (sizes_from 0 (max_component_count + 1))) ≡ refused 2
unfolding read_extension read_suffix read_sizes read_components read_sized read_last read_number number_said encoding_width min_tag number_bytes sizes_bytes
own_limits_first = refl

-- the strict test of the shared count comes after the whole path is read
shared_count_last : read_against true ((97 ∷ []) ∷ []) (standalone_bytes 0 ++ (sizes_bytes (sizes_from 3 2) ++ (standalone_bytes 1 ++ (97 ∷ [])))) ≡ refused 1
unfolding read_against join_ok read_suffix read_sizes read_components read_sized read_last read_number number_said encoding_width min_tag number_bytes sizes_bytes
shared_count_last = refl

-- a long form of the shared count is refused before the sizes are missed
shared_count_first : read_against true [] (inline_limit 8 ∷ big_endian 1 0) ≡ refused 2
unfolding read_against read_number number_said encoding_width min_tag
shared_count_first = refl

-- that it is above the reference's is told once the sizes are there
above_short : read_against false [] (standalone_bytes 1) ≡ refused 1
unfolding read_against join_ok read_suffix read_sizes read_number number_said encoding_width min_tag number_bytes sizes_bytes
above_short = refl

above_there : read_against false [] (standalone_bytes 1 ++ sizes_bytes (sizes_from 0 0)) ≡ refused 2
unfolding read_against join_ok read_suffix read_sizes read_number number_said encoding_width min_tag number_bytes sizes_bytes
above_there = refl
