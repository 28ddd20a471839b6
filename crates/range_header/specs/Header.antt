-- docs/FORMAT.md, "3d ranges": the first header byte.
use Rattle.std.specs.Prelude.{cond, ℕ, ◌+◌, ◌*◌, eqb}
use Rattle.codec.specs.Header.{bits_at, flag, placed, bit}
use Rattle.range_subspaces.specs.declared.IdSource.{IdSource}
use Rattle.range_subspaces.specs.declared.IdSource.TheVariants.{Nowhere, Start, End, Written}
use Rattle.range_header.specs.declared.Range3dHeader.{Range3dHeader}

-- how many bytes both headers take
abbrev pub header_length : ℕ
header_length = 2

-- the bits that say where an id is taken from
abbrev pub source_width : ℕ
source_width = 2

-- where each part stands, told by the widths of the parts before it
abbrev pub subspace_start_at : ℕ
subspace_start_at = 0

abbrev pub subspace_end_at : ℕ
subspace_end_at = source_width

abbrev pub path_start_from_start_at : ℕ
path_start_from_start_at = 2 * source_width

abbrev pub path_end_open_at : ℕ
path_end_open_at = 2 * source_width + 1

abbrev pub path_end_from_start_at : ℕ
path_end_from_start_at = 2 * source_width + 2

abbrev pub times_end_open_at : ℕ
times_end_open_at = 2 * source_width + 3

-- where an id is taken from
abbrev pub source_bits : IdSource → ℕ
source_bits Nowhere = 0
source_bits Start = 1
source_bits End = 2
source_bits Written = 3

abbrev pub source_from : ℕ → IdSource
source_from n = cond (eqb n 0) Nowhere (cond (eqb n 1) Start (cond (eqb n 2) End Written))

abbrev pub unpack_header : ℕ → Range3dHeader
unpack_header b = record {
  subspace_start = source_from (bits_at subspace_start_at source_width b);
  subspace_end = source_from (bits_at subspace_end_at source_width b);
  path_start_from_start = flag path_start_from_start_at b;
  path_end_open = flag path_end_open_at b;
  path_end_from_start = flag path_end_from_start_at b;
  times_end_open = flag times_end_open_at b;
}

abbrev pub pack_header : Range3dHeader → ℕ
pack_header h =
    placed subspace_start_at source_width (source_bits h.subspace_start)
    + placed subspace_end_at source_width (source_bits h.subspace_end)
    + placed path_start_from_start_at 1 (bit h.path_start_from_start)
    + placed path_end_open_at 1 (bit h.path_end_open)
    + placed path_end_from_start_at 1 (bit h.path_end_from_start)
    + placed times_end_open_at 1 (bit h.times_end_open)
