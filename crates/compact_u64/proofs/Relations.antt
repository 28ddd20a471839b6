-- The bytes of a standalone number.
use mathlib.Core.Path.{◌≡◌}
use mathlib.Core.List.{List}
use Prim.Native.Nat.{ℕ}
use Rattle.compact_u64.specs.Number.{standalone_bytes, U64}

pub record StandaloneAs (v : ℕ) (e : List ℕ) : Type 0 where
  pub small : U64 v
  pub bytes : e ≡ standalone_bytes v
