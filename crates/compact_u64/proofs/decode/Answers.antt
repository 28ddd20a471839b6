use Rattle.codec.proofs.Prelude.{◌+◌, sym, arith, drop, length-drop}
use Rattle.compact_u64.proofs.Number.{number_bounded}
use Rattle.compact_u64.proofs.decode.Goals as goal

pub overflow_add-result : goal.overflow_add-result
overflow_add-result c =
    let a = c.args in
    let m = a.message.now in
    omega (arith, (number_bounded 8 _ a.canonic).bound (drop (a.start + 1) m) _ _ (sym c.in_ok-number.ensures), length-drop (a.start + 1) m)
