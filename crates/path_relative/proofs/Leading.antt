-- What a path shares that begins with the leading components of a reference.
use Rattle.codec.proofs.Prelude.{◌≡◌, sym, List, [], ◌∷◌, ◌++◌, ℕ, zero, suc, ◌+◌, ◌≤◌, zero-add, arith, length, take, drop}
use Rattle.codec.proofs.SameBytes.{same_refl}
use Rattle.path.specs.Prefix.{shared}

pub shared_after : (r cs : List (List ℕ)) (k : ℕ) → k ≤ length r → shared r (take k r ++ cs) ≡ k + shared (drop k r) cs
shared_after r cs zero h = sym (zero-add (shared r cs))
shared_after [] cs (suc k) h = absurd (omega arith)
shared_after (c ∷ r) cs (suc k) h = rw (same_refl c) (omega (arith, shared_after r cs k (omega arith)))
