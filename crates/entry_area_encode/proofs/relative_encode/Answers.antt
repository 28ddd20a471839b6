use Rattle.codec.proofs.Prelude.{◌≡◌}
use Rattle.std.proofs.Common.{Err, rules}
use Rattle.codec.proofs.Lending.{put_refused_value, writes_into}
use Rattle.grouping.specs.Record.{area_lent}
use Rattle.entry.specs.Record.{entry_lent}
use Rattle.entry_area.specs.Records.{against_namespace_area}
use Rattle.entry_area_encode.proofs.relative_encode.Goals as goal

pub returns-in_err-within : goal.returns-in_err-within
returns-in_err-within c =
    let a = c.args in
    let e : c.from_residual.result ≡ Err c.in_err-within.field-0.0 = search rules in
    rw e (writes_into (put_refused_value _ ((against_namespace_area a.namespace (area_lent a.reference)).encode (entry_lent a.entry)) a.buffer.now _ c.in_err-within.ensures.err))
