use Rattle.codec.proofs.Prelude.{sym}
use Rattle.codec.specs.declared.DecodeError.TheVariants as decoding
use Rattle.codec.proofs.Answers.{joins_refused}
use Rattle.path.proofs.Growing.{in_empty}
use Rattle.entry.specs.Record.{entry_lent}
use Rattle.entry_entry.proofs.DecodeExits.{entry_malformed}
use Rattle.entry_entry_decode.proofs.relative_decode.Goals as goal

pub returns-then-not-is_well_formed : goal.returns-then-not-is_well_formed
returns-then-not-is_well_formed c =
    joins_refused decoding.Malformed (rw c.clear.ensures in_empty)
    (sym (entry_malformed (entry_lent c.args.reference) c.args.message.now c.args.start (sym c.if-not-is_well_formed.ensures)))

pub decode_tested-requires : goal.decode_tested-requires
decode_tested-requires c = (sym c.if-not-is_well_formed.ensures, rw c.clear.ensures in_empty)
