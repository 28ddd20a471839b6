use Rattle.text.specs.Decimal.{decimal_text}
use Rattle.text.proofs.DecimalPrinted.{decimal_few}
use Rattle.case_text.proofs.Puts.{puts_two}
use Rattle.case_text.proofs.put.worded.Goals as goal

pub returns-clause-put : goal.returns-clause-put
returns-clause-put c = puts_two c.args.word.now (decimal_text c.args.n) 20 (decimal_few c.args.n) c.requires c.put_bytes.ensures.put c.put_decimal.ensures.put
