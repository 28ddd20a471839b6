use Rattle.std.proofs.Common.{arith, refl}
use Rattle.range_3d.specs.Record.{range_lent}
use Rattle.case_text.proofs.Puts.{puts_first}
use Rattle.case_range_text.proofs.Printed.{range_put}
use Rattle.case_range_text.proofs.print_range.Goals as goal

pub returns : goal.returns
returns c =
    let start = c.new-text.ensures.start in
    let put = range_put (range_lent c.args.range) (omega arith) c.put_subspace.ensures.few (rw start.1 refl) (rw start.0 at c.put_hex.ensures.put) c.put_bytes.ensures.put
    c.put_subspace.ensures.put c.put_bytes-2.ensures.put c.put_path.ensures.put c.put_bytes-3.ensures.put c.put_path_end.ensures.put
    c.put_bytes-4.ensures.put c.put_decimal.ensures.put c.put_bytes-5.ensures.put c.put_end.ensures.put in
    let read = puts_first put.0 in
    let told = c.first_bytes.ensures in
    grind arith
