use Rattle.codec.proofs.Prelude.{◌≡◌, refl}
use Rattle.std.proofs.Common.{Err, rules}
use Rattle.codec.specs.declared.EncodeError.TheVariants as encoding
use Rattle.range3d_range3d.specs.Records.{against_range}
use Rattle.flat.specs.RangeRecord.{range_in}
use Rattle.jakepuro.proofs.Marks.{malformed_written, range_reference, range_value}
use Rattle.jakepuro.proofs.ranges.encode.Goals as goal

pub returns-in_err-reference : goal.returns-in_err-reference
returns-in_err-reference c =
    let e : c.from_residual.result ≡ Err encoding.Malformed = search rules in
    rw e (malformed_written (against_range (range_in c.args.reference.now)) (range_in c.args.range.now) (range_reference c.args.reference.now c.args.range.now (c.in_err-reference.ensures.err.0 refl)) c.args.buffer.now)

pub returns-in_err-range : goal.returns-in_err-range
returns-in_err-range c =
    let e : c.from_residual-in_err-range.result ≡ Err encoding.Malformed = search rules in
    rw e (malformed_written (against_range (range_in c.args.reference.now)) (range_in c.args.range.now) (range_value c.args.reference.now c.args.range.now (c.in_err-range.ensures.err.0 refl)) c.args.buffer.now)
