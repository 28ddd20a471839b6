use Rattle.codec.proofs.Prelude.{refl}
use Rattle.codec.specs.Format.{length_answer}
use Rattle.jakepuro.proofs.numbers.jakepuro_standalone_len_of_encoding.Goals as goal

pub returns : goal.returns
unfolding length_answer
returns c = record { code = refl; count = c.len_of_encoding.ensures.0 }
