use Rattle.codec.proofs.Prelude.{◌≡◌, arith}
use Rattle.std.proofs.Common.{Err, rules}
use Rattle.grouping.specs.Record.{area_lent}
use Rattle.area_area_decode.proofs.Steps.{parts_subspace, parts_first, parts_times, parts_second, parts_path, parts_inside, parts_read}
use Rattle.area_area_decode.proofs.decode_parts.Goals as goal

pub returns-in_err-subspace : goal.returns-in_err-subspace
returns-in_err-subspace c =
    let e : c.from_residual.result ≡ Err c.in_err-subspace.field-0.0 = search rules in
    rw e (parts_subspace c.args.canonic (area_lent c.args.reference) c.requires.0 c.args.header c.args.message.now _ c.requires.1 c.in_err-subspace.ensures)

pub slice_bounds-relative_decode-count : goal.slice_bounds-relative_decode-count
slice_bounds-relative_decode-count c = parts_first c.args.canonic (area_lent c.args.reference) c.requires.0 c.args.header c.args.message.now c.in_ok-subspace.ensures

pub slice_bounds-relative_decode-start : goal.slice_bounds-relative_decode-start
slice_bounds-relative_decode-start c = omega (arith, parts_first c.args.canonic (area_lent c.args.reference) c.requires.0 c.args.header c.args.message.now c.in_ok-subspace.ensures)

pub returns-in_err-times : goal.returns-in_err-times
returns-in_err-times c =
    let e : c.from_residual-in_err-times.result ≡ Err c.in_err-times.field-0.0 = search rules in
    rw e (parts_times c.args.canonic (area_lent c.args.reference) c.requires.0 c.args.header c.args.message.now c.in_ok-subspace.ensures _ c.requires.1 c.in_err-times.ensures)

pub overflow_add-a : goal.overflow_add-a
overflow_add-a c = omega (arith, parts_second c.args.canonic (area_lent c.args.reference) c.requires.0 c.args.header c.args.message.now c.in_ok-subspace.ensures c.in_ok-times.ensures)

pub returns-in_err-c : goal.returns-in_err-c
returns-in_err-c c =
    let e : c.from_residual-in_err-c.result ≡ Err c.in_err-c.field-0.0 = search rules in
    rw e (parts_path c.args.canonic (area_lent c.args.reference) c.requires.0 c.args.header c.args.message.now c.in_ok-subspace.ensures c.in_ok-times.ensures _ c.in_err-c.ensures)

pub overflow_add-result : goal.overflow_add-result
overflow_add-result c = omega (arith, c.requires.2, parts_inside c.args.canonic (area_lent c.args.reference) c.requires.0 c.args.header c.args.message.now c.in_ok-subspace.ensures c.in_ok-times.ensures _ c.in_ok-c.ensures)

pub overflow_add-result-2 : goal.overflow_add-result-2
overflow_add-result-2 c = omega (arith, c.requires.2, parts_inside c.args.canonic (area_lent c.args.reference) c.requires.0 c.args.header c.args.message.now c.in_ok-subspace.ensures c.in_ok-times.ensures _ c.in_ok-c.ensures)

pub overflow_add-result-3 : goal.overflow_add-result-3
overflow_add-result-3 c = omega (arith, c.requires.2, parts_inside c.args.canonic (area_lent c.args.reference) c.requires.0 c.args.header c.args.message.now c.in_ok-subspace.ensures c.in_ok-times.ensures _ c.in_ok-c.ensures)

pub returns : goal.returns
returns c = parts_read c.args.canonic (area_lent c.args.reference) c.requires.0 c.args.header c.args.message.now c.in_ok-subspace.ensures c.in_ok-times.ensures _ c.in_ok-c.ensures
