use Rattle.std.proofs.Common.{length}
use Rattle.case_paths.proofs.RawSteps.{LengthsRead}
use Rattle.case_paths.proofs.raw.read_lengths.Given as goal

abbrev pub invariant-loop-i : goal.invariant-loop-i
invariant-loop-i l = LengthsRead l.field l.lengths (length l.yielded)
