use Rattle.std.proofs.Common.{length}
use Rattle.path_text.proofs.Reading.{Held}
use Rattle.path_text.proofs.read_components.Given as goal

abbrev pub invariant-loop-component : goal.invariant-loop-component
invariant-loop-component l = Held l.s l.flat l.builder (length l.yielded)
