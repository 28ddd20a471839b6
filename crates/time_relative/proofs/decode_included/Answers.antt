use Rattle.std.proofs.Common.{rules}
use Rattle.time_relative.specs.Difference.{is_included, read_included}
use Rattle.time_relative.specs.inside.Told.{includes_told}
use Rattle.time_relative.proofs.decode_included.Goals as goal

pub returns : goal.returns
unfolding is_included read_included
returns c =
    let a = c.args in
    c.decode_told.ensures (λ d x. includes_told a.canonic a.range a.by.added x) (λ d x b h k p. search rules)
