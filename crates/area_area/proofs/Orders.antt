-- Orders of checks that the laws cannot see, since they tell 1 from 2: computed from the definition, by the names of widths.
use Rattle.codec.proofs.Prelude.{◌≡◌, refl, [], ◌∷◌, Bool, true, false, ℕ, replicate}
use Rattle.codec.specs.Answers.{refused}
use Rattle.codec.specs.Bytes.{zero_id}
use Rattle.std.specs.Prelude.{Option, Some, None}
use mathlib.Core.List.{List}
use Rattle.compact_u64.specs.Number.{inline_limit}
use Rattle.grouping.specs.declared.RangeEnd.TheVariants.{Open}
use Rattle.grouping.specs.Area.{AreaValue}
use Rattle.area_times.specs.Header.{start_tag_width, pack_header, spare_bits}
use Rattle.area_area.specs.Area.{read_subspace, read_parts, read_area}

-- all times and paths of a subspace, or of any
abbrev reference : Option (List ℕ) → AreaValue
reference s = record { subspace = s; path = []; times = record { start = 0; end = Open } }

-- a header that writes the id and whose end is open, with a flag that is spare beside it; the start takes a byte
abbrev head : Bool → ℕ
head added = pack_header (record { id_written = true; end_open = true; start_added = true; end_added = added; start_tag = inline_limit start_tag_width; end_tag = 0 })

-- strictly, spare bits are refused before the id is missed; leniently it is missed first
spare_first : read_area true (reference None) (head true ∷ []) ≡ refused 2
unfolding read_area spare_bits
spare_first = refl

spare_later : read_area false (reference None) (head true ∷ []) ≡ refused 1
unfolding read_area read_parts read_subspace
spare_later = refl

-- another's id is refused before the start is missed
id_first : read_area false (reference (Some zero_id)) (head false ∷ replicate 32 1) ≡ refused 2
unfolding read_area read_parts read_subspace
id_first = refl
