use Rattle.std.proofs.Common.{rules}
use Rattle.codec.proofs.Prelude.{◌∙◌, drop}
use Rattle.compact_u64.specs.Answers.{bits}
use Rattle.grouping.proofs.Typed.{typed_range}
use Rattle.time_relative.specs.Difference.{is_nearest}
use Rattle.time_relative.proofs.Exits.{nearest_told}
use Rattle.time_relative.proofs.relative_decode.Goals as goal

pub returns : goal.returns
returns c =
    let a = c.args in
    c.decode_told.ensures (is_nearest a.canonic a.range a.by.added) (λ d x b h k p. search rules)
    ∙ nearest_told a.canonic a.range (typed_range a.range c.well_formed.1.1.1.0) a.by.added (bits a.by.width) a.by.tag (drop a.start a.message.now)
