use Rattle.codec.proofs.Prelude.{sym}
use Rattle.codec.specs.declared.DecodeError.TheVariants as decoding
use Rattle.codec.proofs.Answers.{gives_refused}
use Rattle.path.specs.Record.{well_formed}
use Rattle.path.proofs.Components.{well_sized}
use Rattle.path.proofs.Growing.{in_empty}
use Rattle.path_relative.specs.Records.{read_extends_path}
use Rattle.path_relative.proofs.Exits.{extends_unformed}
use Rattle.path_relative_decode.proofs.decode_path_extends_path.Goals as goal

pub returns-then-not-well_formed : goal.returns-then-not-well_formed
unfolding read_extends_path
returns-then-not-well_formed c =
    rw (c.clear.ensures, in_empty) (gives_refused decoding.Malformed (sym (extends_unformed well_formed _ _ _ (sym c.if-not-well_formed.ensures))))

pub returns : goal.returns
unfolding read_extends_path
returns c =
    let well = sym c.if-not-well_formed.ensures in
    rw well (rw (well_sized _ well) at c.decode_path_extends_path.ensures)
