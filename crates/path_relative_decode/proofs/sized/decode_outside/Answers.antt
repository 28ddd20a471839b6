use Rattle.codec.proofs.Prelude.{refl, false}
use Rattle.codec.proofs.Answers.{test_failed}
use Rattle.path.proofs.Growing.{in_empty}
use Rattle.path_relative_decode.proofs.sized.decode_outside.Goals as goal

pub returns : goal.returns
returns c = rw (c.clear.ensures, in_empty) (test_failed (λ p. false) _ c.in_ok-decode.ensures refl)
