use Rattle.std.proofs.Common.{arith}
use Rattle.lines.proofs.Draining.{drained_all, drained_next}
use Rattle.case_text.specs.Limits.{max_answer}
use Rattle.line_program.proofs.turns.drain.Goals as goal

pub returns-then-answered-eq0 : goal.returns-then-answered-eq0
returns-then-answered-eq0 g c =
    let all = drained_all g.P.Program.answer_to max_answer c.loop-rt.invariant c.answer_lines-answered.ensures.taken_value.0 (omega arith) c.if-answered-eq0.true in
    (all, c.loop-rt.invariant.inside)

pub loop-rt-preserved : goal.loop-rt-preserved
loop-rt-preserved g c =
    drained_next g.P.Program.answer_to max_answer c.loop-rt.invariant c.answer_lines-answered.ensures.taken_value.0 _ c.answer_lines-answered.ensures.taken_in_bounds.0 c.answer_lines-answered.auto.out
