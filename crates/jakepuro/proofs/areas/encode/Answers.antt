use Rattle.codec.proofs.Prelude.{◌≡◌, refl}
use Rattle.std.proofs.Common.{Err, rules}
use Rattle.codec.specs.declared.EncodeError.TheVariants as encoding
use Rattle.area_area.specs.Records.{against_area}
use Rattle.flat.specs.AreaRecord.{area_in}
use Rattle.jakepuro.proofs.Marks.{malformed_written, area_reference, area_value}
use Rattle.jakepuro.proofs.areas.encode.Goals as goal

pub returns-in_err-reference : goal.returns-in_err-reference
returns-in_err-reference c =
    let e : c.from_residual.result ≡ Err encoding.Malformed = search rules in
    rw e (malformed_written (against_area (area_in c.args.reference.now)) (area_in c.args.area.now) (area_reference c.args.reference.now c.args.area.now (c.in_err-reference.ensures.err.0 refl)) c.args.buffer.now)

pub returns-in_err-area : goal.returns-in_err-area
returns-in_err-area c =
    let e : c.from_residual-in_err-area.result ≡ Err encoding.Malformed = search rules in
    rw e (malformed_written (against_area (area_in c.args.reference.now)) (area_in c.args.area.now) (area_value c.args.reference.now c.args.area.now (c.in_err-area.ensures.err.0 refl)) c.args.buffer.now)
