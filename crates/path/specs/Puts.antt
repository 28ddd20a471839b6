-- What writing a part of a record leaves.
use Rattle.std.specs.Prelude.{◌≡◌, List, ℕ, length}
use Rattle.codec.specs.Format.{over}

-- n bytes over the start of what was lent
pub record Puts (n : ℕ) (bs lent left : List ℕ) : Type 0 where
  pub long : length bs ≡ n
  pub is : left ≡ over bs lent
