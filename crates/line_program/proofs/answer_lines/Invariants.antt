-- The invariant: the lines of s before `taken` are answered, and their answers were put from the first byte of the buffer on.
use Rattle.std.proofs.Common.{◌-◌, length}
use Rattle.lines.proofs.Answering.{Answered}
use Rattle.text.specs.Writer.{Keeps}
use Rattle.case_text.specs.Limits.{max_answer}
use Rattle.line_program.proofs.answer_lines.Given as goal

abbrev pub invariant-loop-rest : goal.invariant-loop-rest
invariant-loop-rest g l = record {
  answered : Answered g.P.Program.answer_to max_answer l.s l.initial.text.out.now l.text.out.now l.taken l.text.at;
  same : Keeps l.initial.text l.text;
}

abbrev pub decreases-loop-rest : goal.decreases-loop-rest
decreases-loop-rest g l = length l.s - l.taken
