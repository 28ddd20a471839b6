use Rattle.std.proofs.Common.{◌*◌, take}
use Rattle.path.specs.Flat.{shorts}
use Rattle.path.specs.Puts.{Puts}
use Rattle.case_paths.proofs.raw.put_lengths.Given as goal

abbrev pub invariant-loop-i : goal.invariant-loop-i
invariant-loop-i l = Puts (2 * l.i) (shorts (take l.i l.lengths)) l.initial.flat l.flat
