use Rattle.std.proofs.Common.{arith, refl}
use Rattle.entry.specs.Record.{entry_lent}
use Rattle.case_text.proofs.Puts.{puts_first}
use Rattle.case_entry_text.proofs.Printed.{entry_put}
use Rattle.case_entry_text.proofs.print_entry.Goals as goal

pub returns : goal.returns
returns c =
    let start = c.new-text.ensures.start in
    let put = entry_put (entry_lent c.args.entry) (omega arith) (omega arith) (omega arith) (rw start.1 refl) (rw start.0 at c.put_hex.ensures.put) c.put_bytes.ensures.put
    c.put_hex-2.ensures.put c.put_bytes-2.ensures.put c.put_path.ensures.put c.put_bytes-3.ensures.put c.put_decimal.ensures.put
    c.put_bytes-4.ensures.put c.put_decimal-2.ensures.put c.put_bytes-5.ensures.put c.put_hex-3.ensures.put in
    let read = puts_first put.0 in
    let told = c.first_bytes.ensures in
    grind arith
