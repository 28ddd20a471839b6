use Rattle.path_suffix_decode.proofs.Within.{into_none}
use Rattle.path_suffix_decode.proofs.components.decode_all.Goals as goal

pub returns : goal.returns
returns c = into_none _ _ _ c.args.message.now c.if-count-ne0.false c.if-total-ne0.false c.requires
