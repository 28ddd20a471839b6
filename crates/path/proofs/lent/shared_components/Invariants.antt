-- The invariant: the first k components are the same and end at `at`.
use Rattle.codec.proofs.Prelude.{◌≡◌, ℕ, min}
use Rattle.path.specs.Record.{Path}
use Rattle.path.specs.Flat.{path_in}
use Rattle.path.proofs.Compare.{Together}
use Rattle.path.proofs.lent.shared_components.Given as goal

-- the lesser count at hand is that of the records
pub record Walk (p q : Path) (both k at : ℕ) : Type 0 where
  pub ends : both ≡ min p.count q.count
  pub same : Together p q k at

abbrev pub invariant-loop-k : goal.invariant-loop-k
invariant-loop-k l = Walk (path_in l.path) (path_in l.other) l.both l.k l.at
