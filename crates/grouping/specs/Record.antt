-- docs/FORMAT.md, "Areas": an area's record, any subspace or one id, the record of a path and a range of times. The code holds the path's record apart from the rest.
use Rattle.std.specs.Prelude.{◌&&◌, Option, List, Bool, ℕ}
use Rattle.codec.specs.Answers.{Said}
use Rattle.path.specs.Record.{Path, components_of, path_from, well_formed, TypedPath}
use Rattle.path.specs.Flat.{path_in}
use Rattle.path.specs.Answers.{said_if}
use Rattle.grouping.specs.declared.TimeRange.{TimeRange}
use Rattle.grouping.specs.declared.AreaHead.{AreaHead}
use Rattle.grouping.specs.declared.Area.{Area as LentArea}
use Rattle.grouping.specs.Range.{TypedRange}
use Rattle.grouping.specs.Area.{AreaValue, TypedSubspace, includes_area, area_lies_inside}

-- none is any subspace
pub record Area : Type 0 where
  pub subspace : Option (List ℕ)
  pub path : Path
  pub times : TimeRange

-- ---- the values of a record, and the record of values
abbrev pub area_of : Area → AreaValue
area_of a = record { subspace = a.subspace; path = components_of a.path; times = a.times }

-- what an area has beside its path, and both together
abbrev pub head_of : Area → AreaHead
head_of a = record { subspace = a.subspace; times = a.times }

abbrev pub area_with : AreaHead → Path → Area
area_with h path = record { subspace = h.subspace; path = path; times = h.times }

-- what an area of the code stands for, whose path is lent
abbrev pub area_lent : LentArea → Area
area_lent a = area_with a.head (path_in a.path.now)

unfoldable pub area_from : AreaValue → Area
area_from v = record { subspace = v.subspace; path = path_from v.path; times = v.times }

-- ---- well formed: what 5 tests
abbrev pub well_formed_area : Area → Bool
well_formed_area a = well_formed a.path

-- what the language says of a record
pub record TypedArea (a : Area) : Type 0 where
  pub subspace : TypedSubspace a.subspace
  pub path : TypedPath a.path
  pub times : TypedRange a.times

-- ---- comparing records: 5 unless both areas are well formed
unfoldable pub area_includes : Area → Area → Said Bool
area_includes r a = said_if (well_formed_area r && well_formed_area a) (includes_area (area_of r) (area_of a))

unfoldable pub says_area_inside : Area → Area → Said Bool
says_area_inside r a = said_if (well_formed_area r && well_formed_area a) (area_lies_inside (area_of r) (area_of a))
