use Rattle.codec.proofs.Prelude.{◌≡◌, refl, drop}
use Rattle.std.proofs.Common.{Err, rules}
use Rattle.codec.specs.declared.DecodeError.TheVariants as decoding
use Rattle.area_area.proofs.DecodeExits.{area_malformed}
use Rattle.flat.specs.AreaRecord.{area_in, area_flat}
use Rattle.flat.proofs.AreaLaws.{area_unmarked}
use Rattle.jakepuro.proofs.Marks.{malformed_left}
use Rattle.jakepuro.proofs.areas.decode.Goals as goal

pub returns-in_err-reference : goal.returns-in_err-reference
returns-in_err-reference c =
    let e : c.from_residual.result ≡ Err decoding.Malformed = search rules in
    rw e (malformed_left area_flat c.args.area.now (area_malformed c.args.canonic (area_in c.args.reference.now) (drop c.args.start c.args.message.now) (area_unmarked c.args.reference.now (c.in_err-reference.ensures.err.0 refl))))
