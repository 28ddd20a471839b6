use Rattle.codec.proofs.Prelude.{◌≡◌, ◌⊎◌, inl, inr, ◌+◌, ◌<◌, ◌≤◌, sym, arith}
use Rattle.std.proofs.Common.{Err, rules}
use Rattle.path.specs.Record.{components_of}
use Rattle.path.specs.Limits.{max_component_count, max_path_length, total_of}
use Rattle.path.specs.Flat.{path_in}
use Rattle.path.proofs.Growing.{in_empty}
use Rattle.path_relative_decode.proofs.Steps.{all_sized, extends_unsized, extends_stopped, extends_rest, extends_over, extends_refused, extends_inside, extends_read}
use Rattle.path_relative_decode.proofs.sized.decode_path_extends_path.Goals.{then-used-sizes-via-then-used-sizes, then-used-sizes-via-else-used-sizes+then-count-sizes}
use Rattle.path_relative_decode.proofs.sized.decode_path_extends_path.Goals as goal

pub returns-then-not-sized : goal.returns-then-not-sized
returns-then-not-sized c = rw (c.clear.ensures, in_empty) (extends_unsized c.args.canonic (path_in c.args.extends.now) c.args.message.now c.args.start (sym c.if-not-sized.ensures))

pub returns-in_err-sizes : goal.returns-in_err-sizes
returns-in_err-sizes c =
    let e : c.from_residual.result ≡ Err c.in_err-sizes.field-0.0 = search rules in
    rw (e, c.clear.ensures, in_empty) (extends_stopped c.args.canonic (path_in c.args.extends.now) c.args.message.now c.args.start (sym c.if-not-sized.ensures) _ c.in_err-sizes.ensures)

pub overflow_sub-used : goal.overflow_sub-used
overflow_sub-used c = (all_sized c.args.extends.now (sym c.if-not-sized.ensures) c.count-count.ensures c.span-used.ensures).short

pub overflow_sub-count : goal.overflow_sub-count
overflow_sub-count c = (all_sized c.args.extends.now (sym c.if-not-sized.ensures) c.count-count.ensures c.span-used.ensures).few

pub returns-then-used-sizes : goal.returns-then-used-sizes
returns-then-used-sizes c =
    let k = all_sized c.args.extends.now (sym c.if-not-sized.ensures) c.count-count.ensures c.span-used.ensures in
    let p = path_in c.args.extends.now in
    let h = c.in_ok-sizes.sizes.value in
    let over : (max_path_length < total_of (components_of p) + h.total) ⊎ (max_component_count < p.count + h.count) = elim c.then-used-sizes.branch [
      | then-used-sizes-via-then-used-sizes w ↦ inl (omega (arith, k.total, k.short))
      | then-used-sizes-via-else-used-sizes+then-count-sizes w ↦ inr (omega (arith, k.count, k.few))
    ] in
    rw (extends_over c.args.canonic (path_in c.args.extends.now) c.args.message.now c.args.start (sym c.if-not-sized.ensures) _ _ c.in_ok-sizes.ensures (λ i. omega (arith, c.type_inv.message i)) over) c.decode_outside.ensures

pub overflow_add-rest : goal.overflow_add-rest
overflow_add-rest c = omega (arith, extends_rest c.args.canonic (path_in c.args.extends.now) c.args.message.now c.args.start (sym c.if-not-sized.ensures) _ _ c.in_ok-sizes.ensures)

pub slice_bounds-rest-count : goal.slice_bounds-rest-count
slice_bounds-rest-count c = extends_rest c.args.canonic (path_in c.args.extends.now) c.args.message.now c.args.start (sym c.if-not-sized.ensures) _ _ c.in_ok-sizes.ensures

pub slice_bounds-rest-start : goal.slice_bounds-rest-start
slice_bounds-rest-start c = omega (arith, extends_rest c.args.canonic (path_in c.args.extends.now) c.args.message.now c.args.start (sym c.if-not-sized.ensures) _ _ c.in_ok-sizes.ensures)

pub returns-in_err-n : goal.returns-in_err-n
returns-in_err-n c =
    let k = all_sized c.args.extends.now (sym c.if-not-sized.ensures) c.count-count.ensures c.span-used.ensures in
    let h = c.in_ok-sizes.sizes.value in
    let p = path_in c.args.extends.now in
    let total : total_of (components_of p) + h.total ≤ max_path_length = omega (arith, k.total, k.short) in
    let count : p.count + h.count ≤ max_component_count = omega (arith, k.count, k.few) in
    let e : c.from_residual-in_err-n.result ≡ Err c.in_err-n.field-0.0 = search rules in
    rw e (extends_refused c.args.canonic (path_in c.args.extends.now) c.args.message.now c.args.start (sym c.if-not-sized.ensures) _ _ c.in_ok-sizes.ensures (λ i. omega (arith, c.type_inv.message i)) total count _ k.count _ c.in_err-n.ensures)

pub overflow_add-result : goal.overflow_add-result
overflow_add-result c =
    let k = all_sized c.args.extends.now (sym c.if-not-sized.ensures) c.count-count.ensures c.span-used.ensures in
    let h = c.in_ok-sizes.sizes.value in
    let p = path_in c.args.extends.now in
    let total : total_of (components_of p) + h.total ≤ max_path_length = omega (arith, k.total, k.short) in
    let count : p.count + h.count ≤ max_component_count = omega (arith, k.count, k.few) in
    omega (arith, extends_inside c.args.canonic (path_in c.args.extends.now) c.args.message.now c.args.start (sym c.if-not-sized.ensures) _ _ c.in_ok-sizes.ensures (λ i. omega (arith, c.type_inv.message i)) total count _ k.count _ c.in_ok-n.ensures)

pub returns : goal.returns
returns c =
    let k = all_sized c.args.extends.now (sym c.if-not-sized.ensures) c.count-count.ensures c.span-used.ensures in
    let h = c.in_ok-sizes.sizes.value in
    let p = path_in c.args.extends.now in
    let total : total_of (components_of p) + h.total ≤ max_path_length = omega (arith, k.total, k.short) in
    let count : p.count + h.count ≤ max_component_count = omega (arith, k.count, k.few) in
    extends_read c.args.canonic (path_in c.args.extends.now) c.args.message.now c.args.start (sym c.if-not-sized.ensures) _ _ c.in_ok-sizes.ensures (λ i. omega (arith, c.type_inv.message i)) total count _ k.count _ c.in_ok-n.ensures
