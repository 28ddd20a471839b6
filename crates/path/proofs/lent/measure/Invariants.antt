-- The invariant: the lengths from i on that are left, with the total so far, make the sum, and `short` says whether those before are short.
use Rattle.codec.proofs.Prelude.{◌≡◌, ◌+◌, ◌-◌, ◌*◌, ◌≤◌, ◌&&◌, take, drop}
use Rattle.path.specs.Limits.{max_component_length}
use Rattle.path.specs.Record.{sum_of, all_at_most}
use Rattle.path.specs.Flat.{path_in}
use Rattle.path.proofs.lent.measure.Given as goal

abbrev pub invariant-loop-i : goal.invariant-loop-i
invariant-loop-i l =
    (l.total ≤ 65535 * l.i)
    × (l.total + sum_of (take (l.n - l.i) (drop l.i (path_in l.path).lengths)) ≡ sum_of (take l.n (path_in l.path).lengths))
    × (all_at_most max_component_length (take l.n (path_in l.path).lengths) ≡ (all_at_most max_component_length (drop l.i (take l.n (path_in l.path).lengths)) && l.short))
