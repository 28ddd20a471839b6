use Rattle.std.proofs.Common.{◌≡◌, Err, rules}
use Rattle.codec.specs.declared.EncodeError.TheVariants as encoding
use Rattle.codec.proofs.Prelude.{◌∙◌}
use Rattle.codec.proofs.Lending.{length_refused_value, same_length}
use Rattle.path.specs.Record.{Path, sized}
use Rattle.path.specs.Flat.{path_in}
use Rattle.path_relative.specs.Records.{shared_by, against_path}
use Rattle.path_relative.proofs.Lent.{uncommon_refused_value, shared_against}
use Rattle.path_relative_encode.proofs.relative_len_of_encoding.Goals as goal

pub returns-in_err-shared : goal.returns-in_err-shared
returns-in_err-shared c =
    let path : Path = path_in c.args.path.now in
    let reference : Path = path_in c.args.reference.now in
    let e : c.from_residual.result ≡ Err encoding.Malformed = search rules in
    rw e (length_refused_value (against_path reference) path 5
    (uncommon_refused_value reference path c.in_err-shared.ensures))

pub returns : goal.returns
returns c =
    let path : Path = path_in c.args.path.now in
    let reference : Path = path_in c.args.reference.now in
    let same = shared_against reference path _ c.in_ok-shared.ensures in
    c.shared_len.ensures ∙ same_length (shared_by sized c.in_ok-shared.shared) path (against_path reference) same.0 same.1
