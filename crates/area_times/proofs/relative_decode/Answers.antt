use Rattle.codec.proofs.Prelude.{arith}
use Rattle.codec.proofs.Bounded.{both_bounded}
use Rattle.time_relative.proofs.Time.{time_bounded}
use Rattle.area_times.proofs.Times.{end_field_lem}
use Rattle.area_times.proofs.relative_decode.Goals as goal

pub overflow_add-result : goal.overflow_add-result
overflow_add-result c = omega (arith, both_bounded (time_bounded _ _ _ _ _) ((end_field_lem _ _).bounded _) c.args.message.now c.in_ok-start.ensures c.in_ok-end.ensures)
