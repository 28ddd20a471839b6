use Rattle.codec.proofs.Prelude.{◌≡◌, ◌+◌, ◌-◌, arith}
use Rattle.std.proofs.Common.{Err, rules}
use Rattle.codec.specs.Answers.{AllBytes, decode_number}
use Rattle.path_suffix_decode.proofs.Into.{ready_room, turn_refused, part_inside, turn, end_ready, end_said, end_inside}
use Rattle.path_suffix_decode.proofs.components.decode_some.Goals as goal

pub returns-in_err-component : goal.returns-in_err-component
returns-in_err-component c =
    let e : c.from_residual.result ≡ Err c.in_err-component.field-0.0 = search rules in
    rw e (turn_refused c.loop.invariant (decode_number c.in_err-component.field-0.0) (omega arith) c.in_err-component.ensures)

pub overflow_add-at : goal.overflow_add-at
overflow_add-at c = omega (arith, part_inside c.loop.invariant _ _ c.in_ok-component.ensures)

pub loop-preserved : goal.loop-preserved
loop-preserved c =
    let bytes : AllBytes c.args.message.now = λ i. omega (arith, c.type_inv.message i) in
    let next : c.args.count + 1 - (c.loop.counter + 1) ≡ c.args.count + 1 - c.loop.counter - 1 = omega arith in
    rw (next, c.unwrap_or-builder.ensures) (turn c.loop.invariant _ _ c.in_ok-component.ensures (ready_room c.requires.1) (omega arith) bytes c.append_component.result c.append_component.ensures)

pub decode_last-requires : goal.decode_last-requires
decode_last-requires c = end_ready c.loop.invariant (ready_room c.requires.1) (omega arith)

pub returns-in_err-n : goal.returns-in_err-n
returns-in_err-n c =
    let e : c.from_residual-in_err-n.result ≡ Err c.in_err-n.field-0.0 = search rules in
    rw e (end_said c.loop.invariant (ready_room c.requires.1) (omega arith) c.in_err-n.ensures)

pub overflow_add-result : goal.overflow_add-result
overflow_add-result c = omega (arith, end_inside c.loop.invariant (ready_room c.requires.1) (omega arith) c.in_ok-n.ensures)

pub returns : goal.returns
returns c = end_said c.loop.invariant (ready_room c.requires.1) (omega arith) c.in_ok-n.ensures
