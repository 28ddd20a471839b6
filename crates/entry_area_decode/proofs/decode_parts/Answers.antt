use Rattle.codec.proofs.Prelude.{◌≡◌, arith}
use Rattle.std.proofs.Common.{Err, rules}
use Rattle.path.proofs.Growing.{in_empty}
use Rattle.grouping.specs.Record.{area_lent}
use Rattle.entry_area_decode.proofs.Steps.{entry_unread, entry_unpathed, entry_pathed, entry_unended, entry_inside, entry_read}
use Rattle.entry_area_decode.proofs.decode_parts.Goals as goal

pub returns-in_err-id : goal.returns-in_err-id
returns-in_err-id c =
    let e : c.from_residual.result ≡ Err c.in_err-id.field-0.0 = search rules in
    rw e (entry_unread c.args.canonic c.args.namespace (area_lent c.args.reference) c.requires.1 c.args.header c.args.message.now _ c.requires.2 c.in_err-id.ensures)

pub returns-in_err-b : goal.returns-in_err-b
returns-in_err-b c =
    let e : c.from_residual-in_err-b.result ≡ Err c.in_err-b.field-0.0 = search rules in
    rw e (entry_unpathed c.args.canonic c.args.namespace (area_lent c.args.reference) c.requires.1 c.args.header c.args.message.now c.in_ok-id.ensures _ c.in_err-b.ensures)

pub overflow_add-a : goal.overflow_add-a
overflow_add-a c = omega (arith, c.requires.0, entry_pathed c.args.canonic c.args.namespace (area_lent c.args.reference) c.requires.1 c.args.header c.args.message.now c.in_ok-id.ensures c.in_ok-b.ensures)

pub slice_bounds-relative_decode-count : goal.slice_bounds-relative_decode-count
slice_bounds-relative_decode-count c = entry_pathed c.args.canonic c.args.namespace (area_lent c.args.reference) c.requires.1 c.args.header c.args.message.now c.in_ok-id.ensures c.in_ok-b.ensures

pub slice_bounds-relative_decode-start : goal.slice_bounds-relative_decode-start
slice_bounds-relative_decode-start c = omega (arith, entry_pathed c.args.canonic c.args.namespace (area_lent c.args.reference) c.requires.1 c.args.header c.args.message.now c.in_ok-id.ensures c.in_ok-b.ensures)

pub returns-in-Err : goal.returns-in-Err
returns-in-Err c =
    entry_unended c.args.canonic c.args.namespace (area_lent c.args.reference) c.requires.1 c.args.header c.args.message.now c.in_ok-id.ensures c.in_ok-b.ensures _ (rw c.clear.ensures in_empty) c.in-Err.ensures

pub overflow_add-result-2 : goal.overflow_add-result-2
overflow_add-result-2 c = omega (arith, c.requires.0, entry_inside c.args.canonic c.args.namespace (area_lent c.args.reference) c.requires.1 c.args.header c.args.message.now c.in_ok-id.ensures c.in_ok-b.ensures c.in-Ok.ensures)

pub overflow_add-result-3 : goal.overflow_add-result-3
overflow_add-result-3 c = omega (arith, c.requires.0, entry_inside c.args.canonic c.args.namespace (area_lent c.args.reference) c.requires.1 c.args.header c.args.message.now c.in_ok-id.ensures c.in_ok-b.ensures c.in-Ok.ensures)

pub returns : goal.returns
returns c = entry_read c.args.canonic c.args.namespace (area_lent c.args.reference) c.requires.1 c.args.header c.args.message.now c.in_ok-id.ensures c.in_ok-b.ensures c.in-Ok.ensures
