use Rattle.codec.proofs.Prelude.{◌∙◌, true, ◌&&◌}
use Rattle.codec.proofs.Tests.{and_left}
use Rattle.path.specs.Record.{components_of, sized}
use Rattle.path.specs.Flat.{path_in}
use Rattle.path.specs.Prefix.{is_prefix}
use Rattle.path.proofs.Components.{sized_formed}
use Rattle.path.proofs.Records.{lent_known}
use Rattle.path.proofs.Verdicts.{said_known}
use Rattle.path_relative_encode.proofs.sized.prefix_count.Goals as goal

pub returns : goal.returns
returns c =
    let p = path_in c.args.path.now in
    let r = path_in c.args.extends.now in
    let x = said_known (sized r && sized p) (is_prefix (components_of r) (components_of p)) true (rw c.if-not-prefixed.false at c.in_ok-prefixed.ensures) in
    rw (x.0, x.1, c.count.ensures ∙ lent_known _ (sized_formed (and_left (sized r) (sized p) x.0)) 0 (λ p. p.count))
