-- The plain values of a 3d range within their limits.
use Rattle.codec.specs.Bytes.{TypedId}
use Rattle.path.specs.Limits.{PathOk}
use Rattle.grouping.specs.Range.{TypedRange}
use Rattle.range_3d.specs.Range3d.{Range3dValue, Both}

pub record ValueOk (v : Range3dValue) : Type 0 where
  pub subspaces : Both TypedId v.subspaces
  pub paths : Both PathOk v.paths
  pub times : TypedRange v.times
