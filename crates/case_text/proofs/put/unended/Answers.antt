use Rattle.std.proofs.Common.{arith}
use Rattle.case_text.proofs.Puts.{puts_then}
use Rattle.case_text.proofs.put.unended.Goals as goal

pub returns-in-Read-clause-put : goal.returns-in-Read-clause-put
returns-in-Read-clause-put c = rw c.in-Read.is (puts_then (omega arith) c.ok.ensures.put.0 c.tab_bytes.ensures.put.0, omega arith)

pub returns-in-Number-clause-put : goal.returns-in-Number-clause-put
returns-in-Number-clause-put c = rw c.in-Number.is (puts_then (omega arith) c.ok-in-Number.ensures.put.0 c.worded.ensures.put.0, omega arith)

pub returns-in-Written-clause-put : goal.returns-in-Written-clause-put
returns-in-Written-clause-put c = rw c.in-Written.is (puts_then (omega arith) c.outcome.ensures.put.0 c.tab_hex.ensures.put.0, omega arith)

pub returns-in-WrittenNumber-clause-put : goal.returns-in-WrittenNumber-clause-put
returns-in-WrittenNumber-clause-put c =
    rw (c.in-WrittenNumber.is, ← c.from-in-WrittenNumber.ensures) (
      puts_then (omega arith) c.ok-in-WrittenNumber.ensures.put.0 (puts_then (omega arith) c.worded-in-WrittenNumber.ensures.put.0 c.tab_hex-in-WrittenNumber.ensures.put.0),
      omega arith,
    )
