use Rattle.codec.proofs.Prelude.{◌∙◌}
use Rattle.path.specs.Record.{length_at}
use Rattle.path.proofs.Loads.{first_lent}
use Rattle.path.proofs.lent.component_len.Goals as goal

pub returns-in-Some : goal.returns-in-Some
returns-in-Some c = c.length_in.ensures.0 ∙ first_lent c.in-Some.ensures.cases 0 (λ p. length_at p c.args.i)
