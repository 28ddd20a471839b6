use Rattle.codec.proofs.Prelude.{◌≡◌}
use Rattle.std.proofs.Common.{Err, rules}
use Rattle.codec.proofs.Lending.{put_refused_value, writes_into}
use Rattle.range_3d.specs.Record.{range_lent}
use Rattle.range3d_range3d.specs.Records.{against_range}
use Rattle.range3d_range3d_encode.proofs.relative_encode.Goals as goal

pub returns-in_err-between : goal.returns-in_err-between
returns-in_err-between c =
    let e : c.from_residual.result ≡ Err c.in_err-between.field-0.0 = search rules in
    rw e (writes_into (put_refused_value _ ((against_range (range_lent c.args.reference)).encode (range_lent c.args.range)) c.args.buffer.now _ c.in_err-between.ensures.err))
