use Rattle.codec.proofs.Prelude.{◌≡◌}
use Rattle.std.proofs.Common.{Err, rules}
use Rattle.codec.proofs.Lending.{length_refused_value}
use Rattle.entry.specs.Record.{entry_lent}
use Rattle.entry_entry.specs.Records.{against_entry}
use Rattle.entry_entry_encode.proofs.relative_len_of_encoding.Goals as goal

pub returns-in_err-told : goal.returns-in_err-told
returns-in_err-told c =
    let e : c.from_residual.result ≡ Err c.in_err-told.field-0.0 = search rules in
    rw e (length_refused_value (against_entry (entry_lent c.args.reference)) (entry_lent c.args.entry) _ c.in_err-told.ensures.err)
