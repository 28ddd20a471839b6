use Rattle.codec.proofs.Prelude.{refl, ◌≡◌, ◌-◌, ◌∙◌, arith}
use Rattle.std.proofs.Common.{rules}
use Rattle.path.proofs.Components.{sized_formed}
use Rattle.path.proofs.Records.{lent_known, span_start}
use Rattle.path_suffix_encode.proofs.Records.{turn_ends, turn_inside, turn_part, turn_room, turn_next, turn_fits, turn_last}
use Rattle.path_suffix_encode.proofs.sized.Suffix.put_components.Goals as goal

pub loop-i-init : goal.loop-i-init
loop-i-init c =
    let path = c.args.self.path.now in
    let here = sized_formed c.args.self.leads.fits in
    let there = c.args.self.leads.there in
    record {
      more = omega (arith, c.count-n.ensures ∙ lent_known path here 0 (λ p. p.count));
      start = c.span-from.ensures ∙ span_start path here c.args.self.k there;
      long = refl;
      room = omega arith;
      same = refl;
    }

pub overflow_add-to : goal.overflow_add-to
overflow_add-to c = omega (arith, turn_ends c.args.self.path.now c.args.self.leads c.count-n.ensures c.loop-i.invariant c.component_len.ensures)

pub slice_bounds-put_sized-end-in-loop-i : goal.slice_bounds-put_sized-end-in-loop-i
slice_bounds-put_sized-end-in-loop-i c = omega (arith, turn_inside c.args.self.path.now c.args.self.leads c.count-n.ensures c.loop-i.invariant c.component_len.ensures c.bytes-bytes.ensures)

pub put_sized-at-requires : goal.put_sized-at-requires
put_sized-at-requires c =
    let part = turn_part c.args.self.path.now c.args.self.leads c.count-n.ensures c.loop-i.invariant c.component_len.ensures c.bytes-bytes.ensures in
    rw part (turn_room c.args.self.path.now c.args.self.leads c.count-n.ensures c.loop-i.invariant c.component_len.ensures c.requires (omega arith))

pub loop-i-preserved : goal.loop-i-preserved
loop-i-preserved c =
    let part = turn_part c.args.self.path.now c.args.self.leads c.count-n.ensures c.loop-i.invariant c.component_len.ensures c.bytes-bytes.ensures in
    let w = c.put_sized-at in
    turn_next c.args.self.path.now c.args.self.leads c.count-n.ensures c.loop-i.invariant c.component_len.ensures c.requires (omega arith) (rw part at w.ensures) w.auto.buffer

pub overflow_add-at-2 : goal.overflow_add-at-2
overflow_add-at-2 c =
    let i : c.loop-i.i ≡ c.count-n.result - 1 = omega arith in
    let len = rw (← i) at c.component_len-len.ensures in
    omega (arith, turn_fits c.args.self.path.now c.args.self.leads c.count-n.ensures c.loop-i.invariant len c.requires (omega arith))

pub slice_bounds-put_bytes-end : goal.slice_bounds-put_bytes-end
slice_bounds-put_bytes-end c =
    let i : c.loop-i.i ≡ c.count-n.result - 1 = omega arith in
    let len = rw (← i) at c.component_len-len.ensures in
    omega (arith, turn_fits c.args.self.path.now c.args.self.leads c.count-n.ensures c.loop-i.invariant len c.requires (omega arith))

pub overflow_add-from : goal.overflow_add-from
overflow_add-from c =
    let i : c.loop-i.i ≡ c.count-n.result - 1 = omega arith in
    let len = rw (← i) at c.component_len-len.ensures in
    omega (arith, turn_ends c.args.self.path.now c.args.self.leads c.count-n.ensures c.loop-i.invariant len)

pub slice_bounds-put_bytes-end-2 : goal.slice_bounds-put_bytes-end-2
slice_bounds-put_bytes-end-2 c =
    let i : c.loop-i.i ≡ c.count-n.result - 1 = omega arith in
    let len = rw (← i) at c.component_len-len.ensures in
    omega (arith, turn_inside c.args.self.path.now c.args.self.leads c.count-n.ensures c.loop-i.invariant len c.bytes-bytes.ensures)

pub returns : goal.returns
returns c =
    let i : c.loop-i.i ≡ c.count-n.result - 1 = omega arith in
    let len = rw (← i) at c.component_len-len.ensures in
    let part = turn_part c.args.self.path.now c.args.self.leads c.count-n.ensures c.loop-i.invariant len c.bytes-bytes.ensures in
    turn_last c.args.self.path.now c.args.self.leads c.count-n.ensures c.loop-i.invariant len c.requires (omega arith) (omega arith) ((c.put_bytes.ensures.whole (search rules)).1 ∙ part)
