use Rattle.codec.proofs.Prelude.{◌≡◌, sym, arith}
use Rattle.std.proofs.Common.{Err, rules}
use Rattle.codec.specs.Answers.{encode_number}
use Rattle.codec.proofs.Lending.{length_refused_value, length_refused_writing, length_allowed, length_wrote}
use Rattle.path.specs.Record.{Path, sized}
use Rattle.path.specs.Flat.{path_in}
use Rattle.path.proofs.Components.{sized_formed}
use Rattle.path_suffix.specs.Suffix.{suffix_by}
use Rattle.path_relative.specs.Records.{shared_by}
use Rattle.path_relative.proofs.Writing.{within_by, long_by}
use Rattle.path_relative_encode.proofs.sized.shared_len.Goals as goal

pub returns-in_err-suffix : goal.returns-in_err-suffix
returns-in_err-suffix c =
    let path : Path = path_in c.args.path.now in
    let e : c.from_residual.result ≡ Err c.in_err-suffix.field-0.0 = search rules in
    let why = encode_number c.in_err-suffix.field-0.0 in
    rw e (length_refused_value (shared_by sized c.args.k) path why (length_refused_writing (suffix_by sized c.args.k) path why (sym c.in_err-suffix.ensures)))

pub overflow_add-result : goal.overflow_add-result
overflow_add-result c =
    let path : Path = path_in c.args.path.now in
    let l = length_wrote (suffix_by sized c.args.k) path _ (sym c.in_ok-suffix.ensures) in
    omega (arith, l.1, within_by sized path c.args.k sized_formed l.0, c.len_of_encoding.ensures)

pub returns : goal.returns
returns c =
    let path : Path = path_in c.args.path.now in
    let l = length_wrote (suffix_by sized c.args.k) path _ (sym c.in_ok-suffix.ensures) in
    length_allowed (shared_by sized c.args.k) path _ l.0 (long_by sized path c.args.k _ _ c.len_of_encoding.ensures.0 l.1)
