use Rattle.codec.proofs.Prelude.{◌∙◌, ◌-◌, ap, take, drop}
use Rattle.path.specs.Record.{sum_of}
use Rattle.path.proofs.Loads.{first_lent}
use Rattle.path.proofs.Records.{span_min}
use Rattle.path.proofs.lent.span.Goals as goal

pub returns-in-Some : goal.returns-in-Some
returns-in-Some c =
    let a = c.args in
    c.sum.ensures ∙ ap sum_of (span_min _ a.from a.to _ c.min.ensures) ∙ first_lent c.in-Some.ensures.cases 0 (λ p. sum_of (take (a.to - a.from) (drop a.from p.lengths)))
