use Rattle.std.proofs.Common.{◌≤◌}
use Rattle.line_program.proofs.turns.run.Given as goal

abbrev pub invariant-loop : goal.invariant-loop
invariant-loop g l = l.held.have ≤ g.P.Program.LIMIT
