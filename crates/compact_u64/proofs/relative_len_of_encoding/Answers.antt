use Rattle.codec.proofs.Prelude.{arith}
use Rattle.compact_u64.proofs.Exits.{inline_length, sized-length}
use Rattle.compact_u64.proofs.relative_len_of_encoding.Goals as goal

pub returns-then-value-inline_limit : goal.returns-then-value-inline_limit
returns-then-value-inline_limit c = inline_length _ _ (omega arith)

pub returns : goal.returns
returns c = sized-length _ _ _ (omega arith) _ c.two_to.ensures c.width_exponent.ensures
