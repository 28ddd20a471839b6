-- What the language says of an area's value.
use Rattle.path.specs.Limits.{TypedComponents}
use Rattle.grouping.specs.Range.{TypedRange}
use Rattle.grouping.specs.Area.{AreaValue, TypedSubspace}

pub record TypedValue (v : AreaValue) : Type 0 where
  pub subspace : TypedSubspace v.subspace
  pub path : TypedComponents v.path
  pub times : TypedRange v.times
