-- What the reader's private functions are stated by.
use Rattle.std.specs.Prelude.{◌++◌, Bool, true, cond, ℕ, eqb, take, ◌≡◌, Result, Ok, Err}
use Rattle.codec.specs.declared.Decoded.{Decoded}
use Rattle.codec.specs.declared.DecodeError.{DecodeError}
use Rattle.codec.specs.Reader.{Reader, guard, checked, mapped}
use Rattle.path.specs.Record.{Path, components_of, path_from}
use Rattle.path.specs.inside.Sizes.{Leads}
use Rattle.path.specs.Prefix.{shared}
use Rattle.path_suffix.specs.Suffix.{read_components}
use Rattle.path_relative.specs.Against.{join_ok}

-- the bytes taken of a reading that answers the shared count beside the path
abbrev pub consumed_of : Result (Decoded ℕ) DecodeError → Result ℕ DecodeError
consumed_of (Ok d) = Ok d.consumed
consumed_of (Err e) = Err e

-- what follows the shared count k and the sizes
unfoldable pub read_joined : Bool → Path → ℕ → ℕ → ℕ → Reader Path
read_joined canonic r k total count =
    checked (λ p. cond canonic (eqb (shared (components_of r) (components_of p)) k) true) (
    guard (join_ok (components_of r) k total count) (
    mapped (λ cs. path_from (take k (components_of r) ++ cs)) (
    read_components canonic count 0 total)))

-- records whose sizes are within the limits and whose first k components are the same
pub record Alike (p q : Path) (k : ℕ) : Type 0 where
  pub left : Leads p k
  pub right : Leads q k
  pub same : take k (components_of p) ≡ take k (components_of q)

-- a path that was read against a reference, k components told to be shared: strictly, no further one is the same
pub record ToldShared (canonic : Bool) (r p : Path) (k : ℕ) : Type 0 where
  pub alike : Alike r p k
  pub most : canonic ≡ true → shared (components_of r) (components_of p) ≡ k
