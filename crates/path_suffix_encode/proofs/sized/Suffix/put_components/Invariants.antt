-- The invariant: the components from the k-th on and before the i-th were written before `at`.
use Rattle.path.specs.Flat.{path_in}
use Rattle.path_suffix_encode.proofs.Records.{Turn}
use Rattle.path_suffix_encode.proofs.sized.Suffix.put_components.Given as goal

abbrev pub invariant-loop-i : goal.invariant-loop-i
invariant-loop-i l = Turn (path_in l.path) l.k l.n l.initial.buffer l.buffer l.from l.at l.i
