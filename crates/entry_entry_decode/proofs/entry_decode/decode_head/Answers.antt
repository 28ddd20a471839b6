use Rattle.codec.proofs.Prelude.{arith}
use Rattle.entry_entry_decode.proofs.Steps.{ids_inside, numbers_inside}
use Rattle.entry_entry_decode.proofs.entry_decode.decode_head.Goals as goal

pub overflow_add-next : goal.overflow_add-next
overflow_add-next c =
    let r = c.args.reference in
    omega (arith, ids_inside r.namespace_id r.subspace_id r.timestamp c.args.message.now c.args.start c.if-message-start.false c.unpack-header.ensures c.in_ok-ids.ensures)

pub slice_bounds-relative_decode-count : goal.slice_bounds-relative_decode-count
slice_bounds-relative_decode-count c =
    let r = c.args.reference in
    ids_inside r.namespace_id r.subspace_id r.timestamp c.args.message.now c.args.start c.if-message-start.false c.unpack-header.ensures c.in_ok-ids.ensures

pub slice_bounds-relative_decode-start : goal.slice_bounds-relative_decode-start
slice_bounds-relative_decode-start c =
    let r = c.args.reference in
    omega (arith, ids_inside r.namespace_id r.subspace_id r.timestamp c.args.message.now c.args.start c.if-message-start.false c.unpack-header.ensures c.in_ok-ids.ensures)

pub overflow_add-result : goal.overflow_add-result
overflow_add-result c =
    let r = c.args.reference in
    omega (arith, numbers_inside r.namespace_id r.subspace_id r.timestamp c.args.message.now c.args.start c.if-message-start.false c.unpack-header.ensures c.in_ok-ids.ensures c.in_ok-numbers.ensures)

pub overflow_add-result-2 : goal.overflow_add-result-2
overflow_add-result-2 c =
    let r = c.args.reference in
    omega (arith, numbers_inside r.namespace_id r.subspace_id r.timestamp c.args.message.now c.args.start c.if-message-start.false c.unpack-header.ensures c.in_ok-ids.ensures c.in_ok-numbers.ensures)
