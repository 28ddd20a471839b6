use Rattle.codec.proofs.Prelude.{◌≡◌}
use Rattle.std.proofs.Common.{Err, rules}
use Rattle.codec.proofs.Lending.{length_refused_value}
use Rattle.path.specs.Record.{sized}
use Rattle.path.specs.Flat.{path_in}
use Rattle.path_suffix.specs.Suffix.{suffix_by}
use Rattle.path_suffix_encode.proofs.Records.{suffix_told}
use Rattle.path_suffix_encode.proofs.sized.suffix_len.Goals as goal

pub returns-in_err-suffix : goal.returns-in_err-suffix
returns-in_err-suffix c =
    let e : c.from_residual.result ≡ Err c.in_err-suffix.field-0.0 = search rules in
    rw e (length_refused_value (suffix_by sized c.args.k) (path_in c.args.path.now) _ c.in_err-suffix.ensures.err)

pub returns : goal.returns
returns c =
    let suffix = c.in_ok-suffix.suffix in
    let same = c.in_ok-suffix.ensures.ok in
    rw (same.0, same.1) at (suffix_told suffix.leads c.len.ensures.0)
