-- What the laws of areas say of a subspace: the bytes e are what writing it gives against r.
use mathlib.Core.Path.{◌≡◌}
use mathlib.Core.List.{List}
use mathlib.Core.Bool.{Bool, true}
use Rattle.std.specs.Prelude.{Option}
use Prim.Native.Nat.{ℕ}
use Rattle.grouping.specs.Area.{TypedSubspace, includes_subspace}
use Rattle.area_area.specs.Area.{id_written, subspace_bytes}

pub record SubspaceAs (r : Option (List ℕ)) (written : Bool) (s : Option (List ℕ)) (e : List ℕ) : Type 0 where
  pub typed : TypedSubspace s
  pub inside : includes_subspace r s ≡ true
  pub id : id_written r s ≡ written
  pub bytes : e ≡ subspace_bytes r s
