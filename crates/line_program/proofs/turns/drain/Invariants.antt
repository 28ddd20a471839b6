-- The invariant: whole lines up to `at` were answered, and the others stand in the rest of the input.
use Rattle.std.proofs.Common.{◌-◌, length}
use Rattle.lines.proofs.Draining.{Drained}
use Rattle.line_program.proofs.turns.drain.Given as goal

abbrev pub invariant-loop-rt : goal.invariant-loop-rt
invariant-loop-rt g l = Drained l.s l.initial.out l.out l.at

abbrev pub decreases-loop-rt : goal.decreases-loop-rt
decreases-loop-rt g l = length l.s - l.at
