use Rattle.codec.proofs.Prelude.{◌≡◌}
use Rattle.std.proofs.Common.{Err, rules}
use Rattle.codec.proofs.Lending.{length_refused_value}
use Rattle.grouping.specs.Record.{area_lent}
use Rattle.entry.specs.Record.{entry_lent}
use Rattle.entry_area.specs.Records.{against_namespace_area}
use Rattle.entry_area_encode.proofs.relative_len_of_encoding.Goals as goal

pub returns-in_err-told : goal.returns-in_err-told
returns-in_err-told c =
    let a = c.args in
    let e : c.from_residual.result ≡ Err c.in_err-told.field-0.0 = search rules in
    rw e (length_refused_value (against_namespace_area a.namespace (area_lent a.reference)) (entry_lent a.entry) _ c.in_err-told.ensures.err)
