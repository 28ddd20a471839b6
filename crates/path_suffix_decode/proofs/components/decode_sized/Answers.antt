use Rattle.codec.proofs.Prelude.{sym, arith}
use Rattle.compact_u64.proofs.Standalone.{standalone_bounded}
use Rattle.path_suffix_decode.proofs.components.decode_sized.Goals as goal

pub overflow_sub-message : goal.overflow_sub-message
overflow_sub-message c = omega (arith, (standalone_bounded c.args.canonic).bound c.args.message.now _ _ (sym c.in_ok-number.ensures))

pub slice_bounds-result-end : goal.slice_bounds-result-end
slice_bounds-result-end c = omega (arith, (standalone_bounded c.args.canonic).bound c.args.message.now _ _ (sym c.in_ok-number.ensures))
