use Rattle.codec.proofs.Prelude.{arith}
use Rattle.codec.proofs.Bounded.{both_bounded}
use Rattle.time_distance.proofs.Distance.{from_bounded}
use Rattle.range_times.proofs.Times.{end_bounded}
use Rattle.range_times.proofs.relative_decode.Goals as goal

pub overflow_add-result : goal.overflow_add-result
overflow_add-result c = omega (arith, both_bounded (from_bounded _ _ _ _) (end_bounded _ _ _) c.args.message.now c.in_ok-start.ensures c.in_ok-end.ensures)
