-- What the laws of areas say: the bytes e are what writing an area gives against r.
use Rattle.std.specs.Prelude.{◌≡◌, List, true, ℕ}
use Rattle.path.specs.Limits.{PathOk}
use Rattle.grouping.specs.Area.{AreaValue, TypedSubspace, area_lies_inside}
use Rattle.area_area.specs.Area.{area_bytes}

pub record AreaAs (r a : AreaValue) (e : List ℕ) : Type 0 where
  pub typed : TypedSubspace a.subspace
  pub path : PathOk a.path
  pub inside : area_lies_inside r a ≡ true
  pub bytes : e ≡ area_bytes r a
