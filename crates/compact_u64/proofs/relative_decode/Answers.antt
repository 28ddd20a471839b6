use Rattle.codec.proofs.Prelude.{refl, ◌-◌, ◌^◌, ◌≡◌, ◌∙◌, sym, arith, drop, length-drop}
use Rattle.std.proofs.Common.{rules, Err, pow_pos}
use Rattle.codec.proofs.Lending.{to_end}
use Rattle.compact_u64.specs.Number.{inline_limit}
use Rattle.compact_u64.specs.Answers.{bits}
use Rattle.compact_u64.proofs.Exits.{read_misfit, read_inline, read_short, read_refused, read_lenient, read_strict, read_longer, four_tags}
use Rattle.compact_u64.proofs.relative_decode.Goals.{else-canonic-via-then-canonic+else-min_tag-tag, else-canonic-via-else-canonic}
use Rattle.compact_u64.proofs.relative_decode.Goals as goal

pub returns-then-t-limit : goal.returns-then-t-limit
returns-then-t-limit c = rw c.from-t.ensures (sym (read_inline _ _ _ _ (omega arith)))

pub returns-then-limit-t : goal.returns-then-limit-t
returns-then-limit-t c = sym (read_misfit _ _ _ _ (omega (arith, four_tags c.args.width)))

pub returns-then-message-start : goal.returns-then-message-start
returns-then-message-start c =
    let a = c.args in
    sym (read_short _ _ _ (drop a.start a.message.now) (omega arith) (omega (arith, four_tags a.width)) (2 ^ (a.tag - inline_limit (bits a.width))) refl
    (simp length-drop (omega (arith, pow_pos (a.tag - inline_limit (bits a.width))))))

pub returns-in_err-read : goal.returns-in_err-read
returns-in_err-read c =
    let a = c.args in
    let n : c.two_to.result ≡ 2 ^ (a.tag - inline_limit (bits a.width)) = rw (← c.inline_limit-limit.ensures.0, ← c.from-t.ensures) c.two_to.ensures.0 in
    let e : c.from_residual.result ≡ Err c.in_err-read.field-0.0 = search rules in
    rw e (sym (read_refused _ _ _ (drop a.start a.message.now) (omega arith) (omega (arith, four_tags a.width)) c.two_to.result n c.two_to.ensures.2 _
    (sym (rw (to_end a.start a.message.now) at c.in_err-read.ensures))))

pub returns-then-min_tag-tag : goal.returns-then-min_tag-tag
returns-then-min_tag-tag c =
    let a = c.args in
    let n : c.two_to.result ≡ 2 ^ (a.tag - inline_limit (bits a.width)) = rw (← c.inline_limit-limit.ensures.0, ← c.from-t.ensures) c.two_to.ensures.0 in
    sym (read_longer _ _ _ (drop a.start a.message.now) (omega arith) (omega (arith, four_tags a.width)) c.two_to.result n c.two_to.ensures.2 _ _
    (sym (rw (to_end a.start a.message.now) at c.in_ok-read.ensures)) c.if-canonic.true (λ e. c.if-min_tag-tag.true (c.min_tag.ensures ∙ e)))

pub returns : goal.returns
returns c =
    let a = c.args in
    let n : c.two_to.result ≡ 2 ^ (a.tag - inline_limit (bits a.width)) = rw (← c.inline_limit-limit.ensures.0, ← c.from-t.ensures) c.two_to.ensures.0 in
    let read = sym (rw (to_end a.start a.message.now) at c.in_ok-read.ensures) in
    elim c.else-canonic.branch [
      | else-canonic-via-then-canonic+else-min_tag-tag w ↦
          sym (read_strict _ _ _ (drop a.start a.message.now) (omega arith) (omega (arith, four_tags a.width)) c.two_to.result n c.two_to.ensures.2 _ _ read
          w.if-canonic.true (sym w.min_tag.ensures ∙ w.if-min_tag-tag.false))
      | else-canonic-via-else-canonic w ↦
          sym (read_lenient _ _ _ (drop a.start a.message.now) (omega arith) (omega (arith, four_tags a.width)) c.two_to.result n c.two_to.ensures.2 _ _ read w.if-canonic.false)
    ]
