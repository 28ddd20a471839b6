-- The invariant: what was read so far stands in the record, and reading the rest from `at` on gives what reading all gives.
use Rattle.codec.proofs.Prelude.{◌-◌, ◌+◌}
use Rattle.path.specs.Record.{components_of}
use Rattle.path.specs.Flat.{path_in}
use Rattle.path_suffix_decode.proofs.Into.{Held}
use Rattle.path_suffix_decode.proofs.components.decode_some.Given as goal

abbrev pub invariant-loop : goal.invariant-loop
invariant-loop l = Held l.canonic l.message l.count l.total (components_of (path_in l.initial.out)) l.builder l.out l.used l.at (l.count + 1 - l.counter)
