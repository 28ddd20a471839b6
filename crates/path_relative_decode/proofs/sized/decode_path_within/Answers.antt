use Rattle.codec.proofs.Prelude.{sym}
use Rattle.codec.proofs.Answers.{test_passed, test_failed}
use Rattle.path.specs.Record.{components_of, sized}
use Rattle.path.specs.Flat.{path_in}
use Rattle.path.specs.Prefix.{is_prefix}
use Rattle.path.proofs.Growing.{in_empty}
use Rattle.path_relative.proofs.Within.{within_on}
use Rattle.path_relative_decode.proofs.sized.decode_path_within.Goals as goal

pub returns-then-not-reaches : goal.returns-then-not-reaches
returns-then-not-reaches c =
    let r = path_in c.args.reference.now in
    rw (c.clear.ensures, in_empty, within_on sized c.args.canonic r)
    (test_failed (λ p. is_prefix (components_of r) (components_of p)) _ c.in_ok-shared.ensures.read (sym c.if-not-reaches.ensures))

pub returns : goal.returns
returns c =
    let r = path_in c.args.reference.now in
    rw (within_on sized c.args.canonic r) (test_passed (λ p. is_prefix (components_of r) (components_of p)) _ c.in_ok-shared.ensures.read (sym c.if-not-reaches.ensures))
