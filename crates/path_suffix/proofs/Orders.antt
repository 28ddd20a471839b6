-- Orders of checks that the laws cannot see, since they tell 1 from 2: computed from the definition, by the names of widths and limits.
use Rattle.codec.proofs.Prelude.{◌≡◌, refl, List, [], ◌∷◌, ◌++◌, true, false, ℕ, ◌+◌}
use Rattle.codec.specs.Answers.{refused}
use Rattle.compact_u64.specs.BigEndian.{big_endian}
use Rattle.compact_u64.specs.Number.{inline_limit, min_tag, encoding_width, number_bytes, number_said, standalone_bytes, read_number}
use Rattle.path.specs.Limits.{max_component_length, max_path_length, limits}
use Rattle.path_suffix.specs.Header.{total_width, count_width, pack_tags}
use Rattle.path_suffix.specs.Suffix.{sizes_from, sizes_bytes, read_sizes, read_sized, read_last, read_components, read_suffix}

-- a header byte, by its tags
abbrev head : ℕ → ℕ → ℕ
head total count = pack_tags (record { total = total; count = count })

-- the tag of a count in one byte, and of a total in two
abbrev count_byte : ℕ
count_byte = inline_limit count_width

abbrev total_bytes : ℕ
total_bytes = inline_limit total_width + 1

-- two bytes where the total is one
abbrev two : List ℕ
two = 97 ∷ 98 ∷ []

-- a length that runs over the total is noticed at the last component: the bytes before it are missed first
overrun_short : read_suffix false limits (sizes_bytes (sizes_from 1 2) ++ (standalone_bytes 2 ++ (97 ∷ []))) ≡ refused 1
unfolding read_suffix read_sizes read_components read_sized read_last read_number number_said encoding_width min_tag number_bytes sizes_bytes
overrun_short = refl

-- also the length of a component between
overrun_between : read_suffix false limits (sizes_bytes (sizes_from 1 3) ++ (standalone_bytes 2 ++ two)) ≡ refused 1
unfolding read_suffix read_sizes read_components read_sized read_last read_number number_said encoding_width min_tag number_bytes sizes_bytes
overrun_between = refl

overrun_there : read_suffix false limits (sizes_bytes (sizes_from 1 2) ++ (standalone_bytes 2 ++ two)) ≡ refused 2
unfolding read_suffix read_sizes read_components read_sized read_last read_number number_said encoding_width min_tag number_bytes sizes_bytes
overrun_there = refl

-- the limits are tested after both numbers: the count is missed first
limits_after : read_suffix false limits (head (min_tag total_width (max_path_length + 1)) count_byte ∷ number_bytes total_width (max_path_length + 1)) ≡ refused 1
unfolding read_suffix read_sizes read_components read_sized read_last read_number number_said encoding_width min_tag number_bytes sizes_bytes
limits_after = refl

limits_there : read_suffix false limits (sizes_bytes (sizes_from (max_path_length + 1) 0)) ≡ refused 2
unfolding read_suffix read_sizes read_components read_sized read_last read_number number_said encoding_width min_tag number_bytes sizes_bytes
limits_there = refl

-- a long form is refused when its own bytes are there, before the next number is missed
long_form_first : read_suffix true limits (head total_bytes count_byte ∷ big_endian 2 0) ≡ refused 2
unfolding read_suffix read_sizes read_components read_sized read_last read_number number_said encoding_width min_tag number_bytes sizes_bytes
long_form_first = refl

long_form_later : read_suffix false limits (head total_bytes count_byte ∷ big_endian 2 0) ≡ refused 1
unfolding read_suffix read_sizes read_components read_sized read_last read_number number_said encoding_width min_tag number_bytes sizes_bytes
long_form_later = refl

-- a component's length is tested before its bytes are missed
length_first : read_suffix false limits (sizes_bytes (sizes_from max_path_length 2) ++ standalone_bytes (max_component_length + 1)) ≡ refused 2
unfolding read_suffix read_sizes read_components read_sized read_last read_number number_said encoding_width min_tag number_bytes sizes_bytes
length_first = refl

length_short : read_suffix false limits (sizes_bytes (sizes_from max_path_length 2) ++ standalone_bytes max_component_length) ≡ refused 1
unfolding read_suffix read_sizes read_components read_sized read_last read_number number_said encoding_width min_tag number_bytes sizes_bytes
length_short = refl
