-- The answers to a text that is read piece by piece are those to the lines of the whole.
use Rattle.codec.proofs.Prelude.{◌+◌, arith}
use Rattle.lines.specs.Laws.{AnswersLines}
use Rattle.lines.proofs.Stream.{answers_lines, needs_first}
use Rattle.case_text.specs.Texts.{six, ended}
use Rattle.listing.specs.Lines.{max_line, answer_to}
use Rattle.listing.proofs.Answering.{long_refused}

pub listed_lines : AnswersLines answer_to (max_line + 1)
listed_lines = answers_lines answer_to (max_line + 1) (omega arith) (needs_first answer_to max_line (ended six) long_refused)
