use Rattle.codec.proofs.Prelude.{sym, ◌∙◌}
use Rattle.range_3d.specs.Record.{range_lent}
use Rattle.range3d_range3d.proofs.Writing.{reference_malformed, range_malformed, measure_whole}
use Rattle.range3d_range3d_encode.proofs.range_encode.measure.Goals as goal
use Rattle.range3d_range3d_encode.proofs.range_encode.measure.Goals.{then-not-is_well_formed-via-then-not-is_well_formed, then-not-is_well_formed-via-else-not-is_well_formed+then-not-is_well_formed-2}

pub returns-then-not-is_well_formed : goal.returns-then-not-is_well_formed
returns-then-not-is_well_formed c =
    let value = range_lent c.args.range in
    let known = range_lent c.args.reference in
    elim c.then-not-is_well_formed.branch [
      | then-not-is_well_formed-via-then-not-is_well_formed w ↦ reference_malformed known value (sym c.is_well_formed.ensures ∙ w.if-not-is_well_formed.true)
      | then-not-is_well_formed-via-else-not-is_well_formed+then-not-is_well_formed-2 w ↦
          range_malformed known value (sym c.is_well_formed.ensures ∙ w.if-not-is_well_formed.false) (sym w.is_well_formed-else-not-is_well_formed.ensures ∙ w.if-not-is_well_formed-2.true)
    ]

pub returns : goal.returns
returns c =
    c.measure.ensures ∙ measure_whole (range_lent c.args.reference) (range_lent c.args.range) (sym c.is_well_formed.ensures ∙ c.if-not-is_well_formed.false)
    (sym c.is_well_formed-else-not-is_well_formed.ensures ∙ c.if-not-is_well_formed-2.false)
