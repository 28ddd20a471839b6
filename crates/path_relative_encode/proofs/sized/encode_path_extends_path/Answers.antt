use Rattle.std.proofs.Common.{◌≡◌, Err, rules}
use Rattle.codec.proofs.Lending.{told_refused}
use Rattle.path.specs.Record.{sized}
use Rattle.path.specs.Flat.{path_in}
use Rattle.path_relative.specs.Records.{extends_by}
use Rattle.path_relative.proofs.Lent.{extends_refused, extends_written}
use Rattle.path_relative_encode.proofs.sized.encode_path_extends_path.Goals as goal

pub returns-in_err-k : goal.returns-in_err-k
returns-in_err-k c =
    let e : c.from_residual.result ≡ Err c.in_err-k.field-0.0 = search rules in
    rw e (told_refused (extends_by sized (path_in c.args.extends.now)) _ _ _ (extends_refused _ _ _ c.in_err-k.ensures))

pub returns : goal.returns
returns c = extends_written _ _ _ c.in_ok-k.ensures c.encode_suffix.ensures
