-- What the laws of an entry say of its id: the bytes e are what writing it gives against r.
use mathlib.Core.Path.{◌≡◌}
use mathlib.Core.List.{List}
use mathlib.Core.Bool.{Bool, true}
use Rattle.std.specs.Prelude.{Option, Some, is_none}
use Prim.Native.Nat.{ℕ}
use Rattle.codec.specs.Bytes.{TypedId}
use Rattle.grouping.specs.Area.{includes_subspace}
use Rattle.entry_area.specs.Entry.{id_bytes}

pub record IdAs (r : Option (List ℕ)) (written : Bool) (id e : List ℕ) : Type 0 where
  pub typed : TypedId id
  pub inside : includes_subspace r (Some id) ≡ true
  pub any : is_none r ≡ written
  pub bytes : e ≡ id_bytes r id
