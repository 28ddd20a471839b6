-- docs/FORMAT.md, "3d ranges": the records of ranges. The code holds the records of the paths apart from the rest.
use Rattle.std.specs.Prelude.{Some, None, List, Bool, cond, ℕ}
use Rattle.std.specs.Borrow.{Bor}
use Rattle.codec.specs.Bytes.{TypedId}
use Rattle.path.specs.Record.{Path, components_of, path_from, sized, well_formed, TypedPath}
use Rattle.path.specs.Flat.{path_in}
use Rattle.grouping.specs.declared.TimeRange.{TimeRange}
use Rattle.grouping.specs.Range.{TypedRange}
use Rattle.range_3d.specs.declared.Range3d.{Range3d as LentRange}
use Rattle.range_3d.specs.declared.Range3dHead.{Range3dHead}
use Rattle.range_3d.specs.declared.Range.{Range}
use Rattle.range_3d.specs.Range3d.{Range3dValue, open_end, range_named, both_pass, Both}

pub record Range3d : Type 0 where
  pub subspaces : Range (List ℕ)
  pub paths : Range Path
  pub times : TimeRange

-- ---- the values of a record, and the record of values
abbrev pub paths_of : Range Path → Range (List (List ℕ))
paths_of p = range_named components_of p

abbrev pub range_of : Range3d → Range3dValue
range_of r = record { subspaces = r.subspaces; paths = paths_of r.paths; times = r.times }

unfoldable pub paths_from : Range (List (List ℕ)) → Range Path
paths_from v = range_named path_from v

unfoldable pub range_from : Range3dValue → Range3d
range_from v = record { subspaces = v.subspaces; paths = paths_from v.paths; times = v.times }

-- what paths and a 3d range of the code stand for, which are lent
abbrev pub paths_lent : Range (Bor (List ℕ)) → Range Path
paths_lent p = range_named (λ s. path_in s.now) p

abbrev pub range_lent : LentRange → Range3d
range_lent r = record { subspaces = r.subspaces; paths = paths_lent r.paths; times = r.times }

-- ---- a 3d range by its head and its two paths; the second is none beside the mark of an open end
abbrev pub head_of : Range3d → Range3dHead
head_of r = record { subspaces = r.subspaces; end_open = open_end r.paths.end; times = r.times }

abbrev pub paths_with : Path → Bool → Path → Range Path
paths_with start end_open end = record { start = start; end = cond end_open None (Some end) }

abbrev pub range_with : Range3dHead → Path → Path → Range3d
range_with h start end = record { subspaces = h.subspaces; paths = paths_with start h.end_open end; times = h.times }

-- ---- well formed: what 5 tests
abbrev pub well_formed_paths : Range Path → Bool
well_formed_paths p = both_pass well_formed p

abbrev pub well_formed_range3d : Range3d → Bool
well_formed_range3d r = well_formed_paths r.paths

-- the sizes of the paths alone
abbrev pub sized_paths : Range Path → Bool
sized_paths p = both_pass sized p

-- ---- what the language says of a record
pub record TypedRange3d (r : Range3d) : Type 0 where
  pub subspaces : Both TypedId r.subspaces
  pub paths : Both TypedPath r.paths
  pub times : TypedRange r.times
