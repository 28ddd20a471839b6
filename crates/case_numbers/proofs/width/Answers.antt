use Rattle.std.proofs.Common.{arith}
use Rattle.case_numbers.proofs.Widths.{width_named}
use Rattle.case_numbers.proofs.width.Goals as goal

pub returns-in_ok-checked_sub-in-len1 : goal.returns-in_ok-checked_sub-in-len1
returns-in_ok-checked_sub-in-len1 c =
    rw c.ok.ensures.value (width_named c.args.field.now _ c.try_from.result (omega arith) (omega arith) (omega arith) c.try_from.ensures)
