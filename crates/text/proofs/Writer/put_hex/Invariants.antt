-- The invariant: the bytes so far were printed, two digits each, and printing the others at the end prints all.
use Rattle.std.proofs.Common.{◌≡◌, ◌+◌, ◌*◌, drop}
use Rattle.text.specs.Hex.{hex_text}
use Rattle.text.specs.Writer.{Keeps}
use Rattle.text.specs.Buffer.{over_at}
use Rattle.text.proofs.Writer.put_hex.Given as goal

abbrev pub invariant-loop-b : goal.invariant-loop-b
invariant-loop-b l = record {
  same : Keeps l.initial.self l.self;
  place : l.self.at ≡ l.initial.self.at + 2 * l.b-index;
  printed : over_at l.self.at (hex_text (drop l.b-index l.s)) l.self.out.now ≡ over_at l.initial.self.at (hex_text l.s) l.initial.self.out.now;
}
