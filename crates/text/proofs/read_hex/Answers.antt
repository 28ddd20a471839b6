use Rattle.std.proofs.Common.{arith, length-set}
use Rattle.text.proofs.HexSteps.{unhex_turn, high_at, low_at}
use Rattle.text.proofs.read_hex.Goals as goal

pub loop-i-preserved : goal.loop-i-preserved
loop-i-preserved c = record {
  long = rw length-set c.loop-i.invariant.long;
  read =
      let l = c.loop-i in
      let s = c.args.s.now in
      let e = unhex_turn s l.out l.i (omega arith) (omega arith) in
      let high = high_at s l.i (omega arith) in
      let low = low_at s l.i (omega arith) in
      grind arith;
}
