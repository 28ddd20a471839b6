use Rattle.codec.proofs.Prelude.{sym}
use Rattle.path_codec.proofs.Plain.{plain_refused, plain_written}
use Rattle.path_codec.proofs.encode.Goals as goal

pub returns-then-not-well_formed : goal.returns-then-not-well_formed
returns-then-not-well_formed c = plain_refused _ c.args.buffer.now (sym c.if-not-well_formed.ensures)

pub returns : goal.returns
returns c = plain_written _ c.args.buffer.now _ _ (sym c.if-not-well_formed.ensures) c.encode_suffix.ensures
