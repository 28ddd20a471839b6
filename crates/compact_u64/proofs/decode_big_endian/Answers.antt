use Rattle.codec.proofs.Prelude.{◌≡◌, ◌<◌, sym, arith, take, length, length-take-le}
use Rattle.std.proofs.lemmas.List.{take-take}
use Rattle.codec.proofs.Bytes.{AllBytes-take}
use Rattle.compact_u64.proofs.BigEndian.{value_next, room, room64}
use Rattle.compact_u64.proofs.Exits.{big_wide, big_short, big_there}
use Rattle.compact_u64.proofs.decode_big_endian.Goals as goal

pub returns-then-n-gt8 : goal.returns-then-n-gt8
returns-then-n-gt8 c = sym (big_wide _ _ c.if-n-gt8.true)

pub returns-then-message-n : goal.returns-then-message-n
returns-then-message-n c = sym (big_short _ _ c.if-n-gt8.false c.if-message-n.true)

pub overflow_mul-value : goal.overflow_mul-value
overflow_mul-value c =
    let l = c.loop-byte in
    let i : l.byte-index < 8 = omega (arith, length-take-le c.args.n c.args.message.now c.if-message-n.false, c.loop-byte-test.true) in
    omega (arith, room64 l.byte-index l.value 0 i l.invariant.0 (omega arith))

pub overflow_add-value : goal.overflow_add-value
overflow_add-value c =
    let l = c.loop-byte in
    let i : l.byte-index < 8 = omega (arith, length-take-le c.args.n c.args.message.now c.if-message-n.false, c.loop-byte-test.true) in
    let b : c.from.result < 256 = omega (arith, c.from.ensures, AllBytes-take c.args.n c.args.message.now (λ i. omega (arith, c.type_inv.message i)) l.byte-index) in
    omega (arith, room64 l.byte-index l.value c.from.result i l.invariant.0 b)

pub loop-byte-preserved : goal.loop-byte-preserved
loop-byte-preserved c =
    let l = c.loop-byte in
    let i : l.byte-index < 8 = omega (arith, length-take-le c.args.n c.args.message.now c.if-message-n.false, c.loop-byte-test.true) in
    let b : c.from.result < 256 = omega (arith, c.from.ensures, AllBytes-take c.args.n c.args.message.now (λ i. omega (arith, c.type_inv.message i)) l.byte-index) in (
      room l.byte-index l.value c.from.result i l.invariant.0 b,
      (cc (value_next (take c.args.n c.args.message.now) l.byte-index c.loop-byte-test.true, c.from.ensures, l.invariant.1)),
    )

pub returns : goal.returns
returns c =
    let l = c.loop-byte in
    let n : length (take c.args.n c.args.message.now) ≡ c.args.n = length-take-le c.args.n c.args.message.now c.if-message-n.false in
    let e : l.byte-index ≡ c.args.n = omega (arith, c.loop-byte-test.false, l.auto.byte-index-end, n) in
    rw (l.invariant.1, e, take-take c.args.n c.args.n c.args.message.now (omega arith)) (sym (big_there _ _ c.if-n-gt8.false c.if-message-n.false))
