-- The invariant: the first i bytes were read, and reading the others there reads all.
use Rattle.std.proofs.Common.{◌≡◌, length, drop}
use Rattle.text.specs.Hex.{unhex}
use Rattle.text.specs.Buffer.{over_at}
use Rattle.text.proofs.read_hex.Given as goal

abbrev pub invariant-loop-i : goal.invariant-loop-i
invariant-loop-i l = record { long : length l.out ≡ length l.initial.out; read : over_at l.i (drop l.i (unhex l.s)) l.out ≡ over_at 0 (unhex l.s) l.initial.out }
