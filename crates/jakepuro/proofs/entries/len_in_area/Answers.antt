use Rattle.codec.proofs.Prelude.{◌≡◌, refl}
use Rattle.std.proofs.Common.{Err, rules}
use Rattle.codec.specs.declared.EncodeError.TheVariants as encoding
use Rattle.entry_area.specs.Records.{against_namespace_area}
use Rattle.flat.specs.AreaRecord.{area_in}
use Rattle.flat.specs.EntryRecord.{entry_in}
use Rattle.jakepuro.proofs.Marks.{malformed_length, area_around}
use Rattle.jakepuro.proofs.entries.len_in_area.Goals as goal

pub returns-in_err-area : goal.returns-in_err-area
returns-in_err-area c =
    let e : c.from_residual.result ≡ Err encoding.Malformed = search rules in
    rw e (malformed_length (against_namespace_area c.args.namespace.now (area_in c.args.area.now)) (entry_in c.args.entry.now) (area_around c.args.namespace.now c.args.area.now (entry_in c.args.entry.now) (c.in_err-area.ensures.err.0 refl)))
