use Rattle.codec.proofs.Prelude.{◌≡◌}
use Rattle.std.proofs.Common.{Err, rules}
use Rattle.codec.proofs.Lending.{length_refused_value}
use Rattle.range_3d.specs.Record.{range_lent}
use Rattle.range3d_range3d.specs.Records.{against_range}
use Rattle.range3d_range3d_encode.proofs.relative_len_of_encoding.Goals as goal

pub returns-in_err-told : goal.returns-in_err-told
returns-in_err-told c =
    let e : c.from_residual.result ≡ Err c.in_err-told.field-0.0 = search rules in
    rw e (length_refused_value (against_range (range_lent c.args.reference)) (range_lent c.args.range) _ c.in_err-told.ensures.err)
