-- docs/FORMAT.md, "Areas": an area on plain values: any subspace or one id, the components of a path, and a range of times.
use Rattle.std.specs.Prelude.{Option, Some, None, List, Bool, true, false, ◌&&◌, ℕ}
use Rattle.codec.specs.Bytes.{same_bytes, TypedId}
use Rattle.path.specs.Prefix.{is_prefix}
use Rattle.grouping.specs.declared.TimeRange.{TimeRange}
use Rattle.grouping.specs.declared.AreaHead.{AreaHead}
use Rattle.grouping.specs.Range.{end_value, includes_range, bounds}

pub record AreaValue : Type 0 where
  pub subspace : Option (List ℕ)
  pub path : List (List ℕ)
  pub times : TimeRange

-- what the language says of a value
abbrev pub TypedSubspace : Option (List ℕ) → Type 0
TypedSubspace None = Unit {0}
TypedSubspace (Some id) = TypedId id

-- none is any subspace
abbrev pub includes_subspace : Option (List ℕ) → Option (List ℕ) → Bool
includes_subspace None s = true
includes_subspace (Some r) None = false
includes_subspace (Some r) (Some s) = same_bytes r s

unfoldable pub includes_area : AreaValue → AreaValue → Bool
includes_area r a = includes_subspace r.subspace a.subspace && (is_prefix r.path a.path && includes_range r.times a.times)

-- a lies inside r: included, and its start and end, an open one counted as top, lie between those of r
unfoldable pub area_lies_inside : AreaValue → AreaValue → Bool
area_lies_inside r a = includes_area r a && (bounds r.times a.times.start && bounds r.times (end_value a.times.end))

-- the same of what areas have beside their paths
unfoldable pub head_lies_inside : AreaHead → AreaHead → Bool
head_lies_inside r a =
    includes_subspace r.subspace a.subspace && (includes_range r.times a.times && (bounds r.times a.times.start && bounds r.times (end_value a.times.end)))
