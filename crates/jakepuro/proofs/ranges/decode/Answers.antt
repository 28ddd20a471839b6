use Rattle.codec.proofs.Prelude.{◌≡◌, refl, drop}
use Rattle.std.proofs.Common.{Err, rules}
use Rattle.codec.specs.declared.DecodeError.TheVariants as decoding
use Rattle.range3d_range3d.proofs.DecodeExits.{range_unformed}
use Rattle.flat.specs.RangeRecord.{range_in, range_flat}
use Rattle.flat.proofs.RangeLaws.{range_unmarked}
use Rattle.jakepuro.proofs.Marks.{malformed_left}
use Rattle.jakepuro.proofs.ranges.decode.Goals as goal

pub returns-in_err-reference : goal.returns-in_err-reference
returns-in_err-reference c =
    let e : c.from_residual.result ≡ Err decoding.Malformed = search rules in
    rw e (malformed_left range_flat c.args.range.now (range_unformed (range_in c.args.reference.now) (drop c.args.start c.args.message.now) (range_unmarked c.args.reference.now (c.in_err-reference.ensures.err.0 refl))))
