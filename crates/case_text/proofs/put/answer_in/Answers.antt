use Rattle.std.proofs.Common.{[], ◌∷◌, arith}
use Rattle.case_text.proofs.Puts.{puts_fits, puts_then, within_fits}
use Rattle.case_text.proofs.put.answer_in.Goals as goal

pub returns-in-Some-clause-put : goal.returns-in-Some-clause-put
returns-in-Some-clause-put c = rw c.in-Some.is (within_fits (puts_then (omega arith) c.unended.ensures.put.0 (puts_fits (10 ∷ []) (omega arith) c.put_bytes.ensures.put)) (omega arith))

pub returns-in-None-clause-put : goal.returns-in-None-clause-put
returns-in-None-clause-put c = rw c.in-None.is (within_fits (puts_fits (110 ∷ 111 ∷ 9 ∷ 54 ∷ 10 ∷ []) (omega arith) c.put_bytes-in-None.ensures.put) (omega arith))
