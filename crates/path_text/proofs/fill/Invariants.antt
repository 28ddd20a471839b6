use Rattle.text.specs.Writer.{Keeps}
use Rattle.path.specs.Flat.{path_in}
use Rattle.path_text.proofs.Printing.{Filling}
use Rattle.path_text.proofs.fill.Given as goal

abbrev pub invariant-loop-i : goal.invariant-loop-i
invariant-loop-i l = record {
  filling : Filling (path_in l.path) l.initial.text.out.now l.text.out.now l.text.at l.from l.i;
  same : Keeps l.initial.text l.text;
}
