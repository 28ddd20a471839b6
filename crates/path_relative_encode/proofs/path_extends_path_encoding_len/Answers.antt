use Rattle.codec.proofs.Prelude.{sym, ◌∙◌, refl}
use Rattle.codec.proofs.Lending.{length_refused_value, same_length}
use Rattle.path.specs.Record.{Path, sized}
use Rattle.path.specs.Flat.{path_in}
use Rattle.path_relative.specs.Records.{extends_by, extends_path}
use Rattle.path_relative.proofs.Lent.{extends_whole}
use Rattle.path_relative_encode.proofs.path_extends_path_encoding_len.Goals as goal

pub returns-then-not-both_formed : goal.returns-then-not-both_formed
returns-then-not-both_formed c =
    let path : Path = path_in c.args.path.now in
    let reference : Path = path_in c.args.extends.now in
    length_refused_value (extends_path reference) path 5 (rw (← c.both_formed.ensures, c.if-not-both_formed.true))

pub returns : goal.returns
returns c =
    let path : Path = path_in c.args.path.now in
    let reference : Path = path_in c.args.extends.now in
    let formed = sym c.both_formed.ensures ∙ c.if-not-both_formed.false in
    c.path_extends_path_encoding_len.ensures ∙ same_length (extends_by sized reference) path (extends_path reference) (extends_whole reference path formed) refl
