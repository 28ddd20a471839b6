use Rattle.std.proofs.Common.{arith, length-set}
use Rattle.text.proofs.HexSteps.{hex_text_turn}
use Rattle.text.proofs.Writer.put_hex.Goals as goal

pub loop-b-preserved : goal.loop-b-preserved
loop-b-preserved c = record {
  same = (c.loop-b.invariant.same.0, rw (length-set, length-set) c.loop-b.invariant.same.1);
  place = omega arith;
  printed =
      let l = c.loop-b in
      let e = hex_text_turn c.args.s.now l.self.out.now l.b-index l.self.at (omega arith) (omega arith) in
      grind arith;
}
