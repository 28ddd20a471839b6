use Rattle.codec.proofs.Prelude.{arith}
use Rattle.codec.proofs.Bounded.{both_bounded}
use Rattle.compact_u64.proofs.Number.{number_bounded}
use Rattle.time_distance.proofs.Distance.{from_bounded}
use Rattle.entry_numbers.proofs.relative_decode.Goals as goal

pub overflow_add-result : goal.overflow_add-result
overflow_add-result c = omega (arith, both_bounded (from_bounded _ _ _ _) (number_bounded _ _ _) c.args.message.now c.in_ok-time.ensures c.in_ok-size.ensures)
