use Rattle.codec.proofs.Prelude.{◌-◌, ◌+◌, ◌<◌, ◌≡◌, ◌++◌, refl, arith, drop, length, length-set}
use Rattle.compact_u64.specs.BigEndian.{big_endian}
use Rattle.compact_u64.proofs.BigEndian.{length-big_endian, next_digit, put_one}
use Rattle.compact_u64.proofs.fill_big_endian.Goals as goal

pub loop-init : goal.loop-init
loop-init c = (omega arith, refl, omega arith, refl)

pub overflow_sub-at : goal.overflow_sub-at
overflow_sub-at c = omega (arith, c.loop-test.true, c.loop.invariant.0)

pub bounds-buffer-at : goal.bounds-buffer-at
bounds-buffer-at c = omega (arith, c.loop-test.true, c.loop.invariant.0, c.loop.invariant.1, c.requires)

pub loop-preserved : goal.loop-preserved
loop-preserved c =
    let l = c.loop in
    let at : l.at - 1 + 1 ≡ l.at = omega (arith, c.loop-test.true, l.invariant.0) in
    let inside : l.at - 1 < length l.buffer = omega (arith, c.loop-test.true, l.invariant.0, l.invariant.1, c.requires) in (
      omega (arith, c.loop-test.true, l.invariant.0),
      (simp length-set l.invariant.1),
      rw l.invariant.2 (next_digit c.args.value l.counter),
      put_one l.buffer _ (l.at - 1) l.counter c.args.value l.x inside (rw at l.invariant.3) l.invariant.2,
    )

pub returns : goal.returns
returns c =
    let l = c.loop in
    let a = c.args in
    let k : l.counter ≡ a.n = omega (arith, c.loop-test.false, l.auto.counter-end) in
    let z : l.at ≡ 0 = omega (arith, k, l.invariant.0) in
    let w : l.buffer ≡ big_endian a.n a.value ++ drop a.n a.buffer.now = rw (k, z) at l.invariant.3 in
    rw (length-big_endian a.n a.value) w
