use Rattle.codec.proofs.Prelude.{sym, ◌+◌, arith, drop, length-drop}
use Rattle.compact_u64.proofs.Number.{number_bounded}
use Rattle.path_suffix.specs.Header.{total_width, count_width}
use Rattle.path_suffix_decode.proofs.decode_sizes.Goals as goal

pub overflow_add-second : goal.overflow_add-second
overflow_add-second c =
    let m = c.args.message.now in
    let first = (number_bounded total_width c.unpack_tags-tags.result.total c.args.canonic).bound (drop (c.args.start + 1) m) _ _ (sym c.in_ok-total.ensures) in
    omega (arith, length-drop (c.args.start + 1) m)

pub overflow_add-result : goal.overflow_add-result
overflow_add-result c =
    let m = c.args.message.now in
    let at = c.args.start + 1 + c.in_ok-total.total.consumed in
    let first = (number_bounded total_width c.unpack_tags-tags.result.total c.args.canonic).bound (drop (c.args.start + 1) m) _ _ (sym c.in_ok-total.ensures) in
    let second = (number_bounded count_width c.unpack_tags-tags.result.count c.args.canonic).bound (drop at m) _ _ (sym c.in_ok-count.ensures) in
    omega (arith, length-drop (c.args.start + 1) m, length-drop at m)

pub overflow_add-result-2 : goal.overflow_add-result-2
overflow_add-result-2 c =
    let m = c.args.message.now in
    let at = c.args.start + 1 + c.in_ok-total.total.consumed in
    let first = (number_bounded total_width c.unpack_tags-tags.result.total c.args.canonic).bound (drop (c.args.start + 1) m) _ _ (sym c.in_ok-total.ensures) in
    let second = (number_bounded count_width c.unpack_tags-tags.result.count c.args.canonic).bound (drop at m) _ _ (sym c.in_ok-count.ensures) in
    omega (arith, length-drop (c.args.start + 1) m, length-drop at m)
