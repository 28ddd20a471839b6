use Rattle.path_suffix_decode.proofs.Within.{more_told}
use Rattle.path_suffix_decode.proofs.components.decode_more.Goals as goal

pub returns-then-is_err : goal.returns-then-is_err
returns-then-is_err c =
    let a = c.args in
    more_told a.canonic c.requires a.sizes.total a.sizes.count a.message.now _ _ c.decode_within-answer.ensures c.clear.ensures c.if-is_err.ensures.value
