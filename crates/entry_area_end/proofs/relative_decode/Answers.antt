use Rattle.codec.proofs.Prelude.{arith}
use Rattle.codec.proofs.Bounded.{both_bounded}
use Rattle.compact_u64.proofs.Number.{number_bounded}
use Rattle.time_relative.proofs.Included.{included_bounded}
use Rattle.entry_area_end.proofs.relative_decode.Goals as goal

pub overflow_add-at : goal.overflow_add-at
overflow_add-at c = omega (arith, both_bounded (included_bounded _ _ _ _ _) (number_bounded _ _ _) c.args.message.now c.in_ok-time.ensures c.in_ok-size.ensures)
