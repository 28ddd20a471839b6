use Rattle.codec.proofs.Prelude.{◌≡◌}
use Rattle.std.proofs.Common.{Err, rules}
use Rattle.codec.specs.declared.EncodeError.TheVariants as encoding
use Rattle.range_3d.specs.Record.{range_lent}
use Rattle.range3d_range3d.proofs.Writing.{unmeasured}
use Rattle.range3d_range3d_encode.proofs.range_encode.Difference.between.Goals as goal

pub returns-in_err-paths-clause-err : goal.returns-in_err-paths-clause-err
returns-in_err-paths-clause-err c =
    let e : c.from_residual.result ≡ Err encoding.Malformed = search rules in
    rw e (unmeasured (range_lent c.args.reference) (range_lent c.args.range) c.in_err-paths.ensures)
