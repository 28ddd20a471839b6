use Rattle.path.specs.Flat.{path_in}
use Rattle.path_suffix_decode.proofs.Within.{after_refused, after_ready, after_more}
use Rattle.path_suffix_decode.proofs.decode_after.Goals as goal

pub returns-in_default : goal.returns-in_default
returns-in_default c =
    let a = c.args in
    after_refused a.canonic (path_in a.prefix.now) a.k a.sizes.total a.sizes.count a.message.now c.in_default.field-0 c.in_default.ensures

pub decode_more-requires : goal.decode_more-requires
decode_more-requires c =
    let a = c.args in
    after_ready a.canonic (path_in a.prefix.now) a.k a.sizes.total a.sizes.count a.message.now c.in-Ok.builder c.in-Ok.ensures

pub returns : goal.returns
returns c =
    let a = c.args in
    rw (after_more a.canonic (path_in a.prefix.now) a.k a.sizes.total a.sizes.count a.message.now c.in-Ok.builder c.in-Ok.ensures) c.decode_more.ensures
