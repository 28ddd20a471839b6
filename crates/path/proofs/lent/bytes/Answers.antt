use Rattle.codec.proofs.Prelude.{◌∙◌, []}
use Rattle.path.proofs.Loads.{first_lent}
use Rattle.path.proofs.lent.bytes.Goals as goal

pub returns-in-Some : goal.returns-in-Some
returns-in-Some c = c.bytes_in.ensures ∙ first_lent c.in-Some.ensures.cases [] (λ p. p.bytes)
