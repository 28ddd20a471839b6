use Rattle.codec.proofs.Prelude.{sym}
use Rattle.codec.specs.declared.DecodeError.TheVariants as decoding
use Rattle.codec.proofs.Answers.{gives_refused}
use Rattle.path.specs.Record.{well_formed}
use Rattle.path.proofs.Components.{well_sized}
use Rattle.path.proofs.Growing.{in_empty}
use Rattle.path_relative.specs.Records.{read_against_path}
use Rattle.path_relative.proofs.Exits.{against_malformed}
use Rattle.path_relative_decode.proofs.relative_decode.Goals as goal

pub returns-then-not-well_formed : goal.returns-then-not-well_formed
unfolding read_against_path
returns-then-not-well_formed c =
    rw (c.clear.ensures, in_empty) (gives_refused decoding.Malformed (sym (against_malformed well_formed _ _ _ (sym c.if-not-well_formed.ensures))))

pub returns : goal.returns
unfolding read_against_path
returns c =
    let well = sym c.if-not-well_formed.ensures in
    rw well (rw (well_sized _ well) at c.relative_decode.ensures)
