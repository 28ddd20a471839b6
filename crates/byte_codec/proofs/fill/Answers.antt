use Rattle.codec.proofs.Prelude.{◌≡◌, ◌∙◌, ◌+◌, ◌-◌, ◌*◌, arith, length}
use Rattle.byte_codec.proofs.Copying.{copied_block, copied_all}
use Rattle.byte_codec.proofs.fill.Goals as goal

pub loop-k-preserved : goal.loop-k-preserved
loop-k-preserved c =
    let l = c.loop-k in
    let a = c.args in
    let n : 8 * (l.k + 1) ≡ 8 * l.k + 8 = omega arith in (
      c.put_block.auto.buffer ∙ l.invariant.0,
      rw n (c.put_block.ensures ∙ copied_block a.buffer.now a.s.now l.buffer (8 * l.k) (8 * l.k) 8 (omega arith) (omega arith) (omega (arith, c.loop-k-test.true)) l.invariant.1),
    )

pub returns : goal.returns
returns c =
    let l = c.loop-k in
    let a = c.args in
    let s = a.s.now in
    let block = copied_block a.buffer.now s l.buffer (8 * l.k) (length s - 8) 8 (omega (arith, c.loop-k-test.false, l.auto.k-end)) (omega (arith, l.auto.k-end)) (omega (arith, c.if-n-lt-BLOCK.false)) l.invariant.1 in
    copied_all a.buffer.now s _ (length s - 8 + 8) (omega (arith, c.if-n-lt-BLOCK.false)) (c.put_block-2.ensures ∙ block)
