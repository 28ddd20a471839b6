-- Which bytes stand for which path: the relations of the readers' laws.
use mathlib.Core.Path.{◌≡◌}
use mathlib.Core.List.{List}
use Prim.Native.Nat.{ℕ}
use Rattle.path.specs.Limits.{PathOk}
use Rattle.path_relative.specs.Against.{against_bytes}
use lib.ListN.{length, take}
use Rattle.path_relative.specs.Extension.{extension_bytes}

-- the bytes e are what writing p against r gives
pub record AgainstAs (r p : List (List ℕ)) (e : List ℕ) : Type 0 where
  pub ok : PathOk p
  pub bytes : e ≡ against_bytes r p

-- the bytes e are what writing p as an extension of r gives
pub record ExtensionAs (r p : List (List ℕ)) (e : List ℕ) : Type 0 where
  pub ok : PathOk p
  pub extends : take (length r) p ≡ r
  pub bytes : e ≡ extension_bytes r p
