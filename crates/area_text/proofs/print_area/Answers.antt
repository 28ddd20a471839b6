use Rattle.std.proofs.Common.{refl, arith}
use Rattle.grouping.specs.Record.{area_lent}
use Rattle.case_text.proofs.Puts.{puts_first}
use Rattle.area_text.proofs.Short.{area_put}
use Rattle.area_text.proofs.print_area.Goals as goal

pub returns : goal.returns
returns c =
    let start = c.new-text.ensures.start in
    let put = area_put (area_lent c.args.area) (rw start.1 refl) c.put_subspace.ensures.few (rw start.0 at c.put_subspace.ensures.put) c.put_bytes.ensures.put c.put_path.ensures.put
    c.put_bytes-2.ensures.put c.put_decimal.ensures.put c.put_bytes-3.ensures.put c.put_end.ensures.put in
    let read = puts_first put.0 in
    let told = c.first_bytes.ensures in
    grind arith
