-- Orders of checks that the laws cannot see, since they tell 1 from 2: computed from the definition.
use Rattle.codec.proofs.Prelude.{◌≡◌, refl, List, [], ◌∷◌, ◌++◌, Bool, true, false, ℕ}
use Rattle.codec.specs.Answers.{refused}
use Rattle.codec.specs.Bytes.{zero_id}
use Rattle.std.specs.Prelude.{None}
use Rattle.compact_u64.specs.Number.{inline_limit, min_tag, encoding_width, number_bytes, number_said, read_number}
use Rattle.path_suffix.specs.Suffix.{component_bytes, sizes_bytes, suffix_bytes, read_sizes, read_components, read_suffix}
use Rattle.path_relative.specs.Against.{join_ok, read_against}
use Rattle.grouping.specs.declared.RangeEnd.TheVariants.{Open}
use Rattle.time_distance.specs.Distance.{read_from}
use Rattle.range_3d.specs.Range3d.{Range3dValue}
use Rattle.range_subspaces.specs.declared.IdSource.TheVariants.{Nowhere, Start}
use Rattle.range_subspaces.specs.Subspaces.{read_subspaces}
use Rattle.range_times.specs.Header.{start_tag_width, end_tag_width, pack_header as packTimes}
use Rattle.range_times.specs.Times.{read_times}
use Rattle.range_header.specs.Header.{pack_header}
use Rattle.range_paths.specs.Paths.{path_bytes, paths_bytes, read_paths}
use Rattle.range3d_range3d.specs.Range.{read_parts, read_range}

-- all of it: every end is open
abbrev reference : Range3dValue
reference = record {
  subspaces = record { start = zero_id; end = None };
  paths = record { start = []; end = None };
  times = record { start = 0; end = Open };
}

-- the first header byte: subspaces as the reference's, the path's start from a side, open ends
abbrev head : Bool → ℕ
head from_start = pack_header (record {
  subspace_start = Start;
  subspace_end = Nowhere;
  path_start_from_start = from_start;
  path_end_open = true;
  path_end_from_start = false;
  times_end_open = true;
})

-- the second: a start of times that takes one byte, from the reference's end, which is open
abbrev times : ℕ
times = packTimes (record {
  start_from_start = false;
  start_added = false;
  start_tag = inline_limit start_tag_width;
  end_from_start = false;
  end_added = false;
  end_tag = min_tag end_tag_width 0;
})

-- the paths of the reference, against themselves
abbrev paths : List ℕ
paths = paths_bytes reference.paths reference.paths

-- both header bytes are read before a flag is tested
headers_first : read_range reference (head false ∷ []) ≡ refused 1
unfolding read_range
headers_first = refl

-- a path from the open end is refused before a byte of it is missed
open_path_first : read_range reference (head false ∷ times ∷ []) ≡ refused 2
unfolding read_range read_parts read_subspaces read_paths
open_path_first = refl

-- a time from the open end is refused once its difference is read
open_time_short : read_range reference (head true ∷ times ∷ paths) ≡ refused 1
unfolding read_range read_parts read_subspaces read_paths read_times read_from read_against join_ok read_suffix read_sizes read_components read_number number_said encoding_width min_tag paths_bytes path_bytes suffix_bytes sizes_bytes component_bytes number_bytes
open_time_short = refl

open_time_there : read_range reference (head true ∷ times ∷ (paths ++ (0 ∷ []))) ≡ refused 2
unfolding read_range read_parts read_subspaces read_paths read_times read_from read_against join_ok read_suffix read_sizes read_components read_number number_said encoding_width min_tag paths_bytes path_bytes suffix_bytes sizes_bytes component_bytes number_bytes
open_time_there = refl
