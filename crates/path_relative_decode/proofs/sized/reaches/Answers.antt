use Rattle.codec.proofs.Prelude.{sym, ◌∙◌}
use Rattle.path.proofs.Components.{sized_formed}
use Rattle.path.proofs.Records.{lent_known}
use Rattle.path_relative.proofs.Within.{all_told}
use Rattle.path_relative_decode.proofs.sized.reaches.Goals as goal

pub returns-then-count-k : goal.returns-then-count-k
returns-then-count-k c =
    let counted = c.count.ensures ∙ lent_known c.args.reference.now (sized_formed c.requires.alike.left.fits) 0 (λ p. p.count) in
    sym (all_told c.requires (sym counted ∙ c.if-count-k.true))
