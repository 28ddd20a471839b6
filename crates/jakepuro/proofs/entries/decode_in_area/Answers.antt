use Rattle.codec.proofs.Prelude.{◌≡◌, refl, drop}
use Rattle.std.proofs.Common.{Err, rules}
use Rattle.codec.specs.declared.DecodeError.TheVariants as decoding
use Rattle.entry_area.proofs.DecodeExits.{area_malformed}
use Rattle.flat.specs.AreaRecord.{area_in}
use Rattle.flat.specs.EntryRecord.{entry_flat}
use Rattle.flat.proofs.AreaLaws.{area_unmarked}
use Rattle.jakepuro.proofs.Marks.{malformed_left}
use Rattle.jakepuro.proofs.entries.decode_in_area.Goals as goal

pub returns-in_err-area : goal.returns-in_err-area
returns-in_err-area c =
    let e : c.from_residual.result ≡ Err decoding.Malformed = search rules in
    rw e (malformed_left entry_flat c.args.entry.now (area_malformed c.args.canonic c.args.namespace.now (area_in c.args.area.now) (drop c.args.start c.args.message.now) (area_unmarked c.args.area.now (c.in_err-area.ensures.err.0 refl))))
