-- The invariant: t is what the components from the k-th on and before the i-th take, each after its length.
use Rattle.codec.proofs.Prelude.{◌≡◌, ◌+◌, length, drop}
use Rattle.path.specs.Record.{components_of}
use Rattle.path.specs.Flat.{path_in}
use Rattle.path_suffix.specs.Suffix.{component_bytes}
use Rattle.path_suffix_encode.proofs.sized.Suffix.components_len.Given as goal

abbrev pub invariant-loop-i : goal.invariant-loop-i
invariant-loop-i l = l.t + length (component_bytes (drop l.i (components_of (path_in l.path)))) ≡ length (component_bytes (drop l.k (components_of (path_in l.path))))
