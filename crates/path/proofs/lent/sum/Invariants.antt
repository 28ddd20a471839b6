-- The invariant: the lengths from i on that are left, with the total so far, make the sum.
use Rattle.codec.proofs.Prelude.{◌≡◌, ◌+◌, ◌-◌, ◌*◌, ◌≤◌, take, drop}
use Rattle.path.specs.Record.{sum_of}
use Rattle.path.specs.Flat.{path_in}
use Rattle.path.proofs.lent.sum.Given as goal

abbrev pub invariant-loop-i : goal.invariant-loop-i
invariant-loop-i l =
    (l.total ≤ 65535 * (l.i - l.from)) × (l.total + sum_of (take (l.to - l.i) (drop l.i (path_in l.path).lengths)) ≡ sum_of (take (l.to - l.from) (drop l.from (path_in l.path).lengths)))
