-- What was written into a buffer.
use mathlib.Core.Path.{◌≡◌}
use mathlib.Core.List.{List}
use Prim.Native.Nat.{ℕ, ◌+◌, ◌≤◌}
use lib.ListN.{length}
use Rattle.text.specs.Buffer.{over_at}

-- the bytes a, at most m of them, were written from a place of the buffer l on; it is now l', and p is the next place
pub record Wrote (l : List ℕ) (at : ℕ) (a l' : List ℕ) (p m : ℕ) : Type 0 where
  pub place : p ≡ at + length a
  pub buffer : l' ≡ over_at at a l
  pub few : length a ≤ m
