use Rattle.std.proofs.Common.{◌≡◌, ◌∙◌, ◌<◌, refl, ap, length, [], arith}
use Rattle.path.specs.Record.{Path, length_at}
use Rattle.path.specs.Flat.{path_in}
use Rattle.path.proofs.Components.{parts_formed, ends, part_bytes}
use Rattle.path.proofs.Records.{lent_known}
use Rattle.path_text.proofs.Printing.{filling_none, filling_next, filling_all}
use Rattle.path_text.proofs.fill.Goals as goal

pub loop-i-init : goal.loop-i-init
loop-i-init c = record { filling = rw c.requires.1.0 (filling_none (path_in c.args.path.now) c.args.text.now.out.now); same = (refl, refl) }

pub overflow_add-to : goal.overflow_add-to
overflow_add-to c =
    let f = parts_formed c.requires.0 in
    let l = c.loop-i in
    let counted = c.count-i-end.ensures ∙ lent_known _ f 0 (λ (p : Path). p.count) in
    let len = c.component_len.ensures ∙ lent_known _ f 0 (λ (p : Path). length_at p c.loop-i.i) in
    omega (arith, ends (path_in c.args.path.now) f l.i (omega (arith, counted)), l.invariant.filling.start, len)

pub slice_bounds-put_hex-end : goal.slice_bounds-put_hex-end
slice_bounds-put_hex-end c =
    let f = parts_formed c.requires.0 in
    let l = c.loop-i in
    let counted = c.count-i-end.ensures ∙ lent_known _ f 0 (λ (p : Path). p.count) in
    let len = c.component_len.ensures ∙ lent_known _ f 0 (λ (p : Path). length_at p c.loop-i.i) in
    let stand = c.bytes-bytes.ensures ∙ lent_known _ f [] (λ (p : Path). p.bytes) in
    omega (arith, ends (path_in c.args.path.now) f l.i (omega (arith, counted)), l.invariant.filling.start, len, f.bytes, ap length stand)

pub loop-i-preserved : goal.loop-i-preserved
loop-i-preserved c =
    let f = parts_formed c.requires.0 in
    let l = c.loop-i in
    let p = path_in c.args.path.now in
    let counted = c.count-i-end.ensures ∙ lent_known _ f 0 (λ (p : Path). p.count) in
    let len : c.component_len.result ≡ length_at p l.i = c.component_len.ensures ∙ lent_known _ f 0 (λ (p : Path). length_at p c.loop-i.i) in
    let stand : c.bytes-bytes.result.now ≡ p.bytes = c.bytes-bytes.ensures ∙ lent_known _ f [] (λ (p : Path). p.bytes) in
    let more : l.i < p.count = omega (arith, counted) in
    let part = part_bytes p f l.i more l.from l.invariant.filling.start in
    record {
      filling = filling_next f l.invariant.filling more c.requires.1.1 (omega (arith, len)) c.put_bytes.ensures.put.0 c.put_bytes.ensures.put.1
          (rw (len, stand, part) at c.put_hex.ensures.put.0) (rw (len, stand, part) at c.put_hex.ensures.put.1);
      same = (c.put_hex.ensures.same.0 ∙ c.put_bytes.ensures.same.0 ∙ l.invariant.same.0, c.put_hex.ensures.same.1 ∙ c.put_bytes.ensures.same.1 ∙ l.invariant.same.1);
    }

pub returns-clause-put : goal.returns-clause-put
returns-clause-put c =
    let f = parts_formed c.requires.0 in
    let counted = c.count-i-end.ensures ∙ lent_known _ f 0 (λ (p : Path). p.count) in
    filling_all f c.loop-i.invariant.filling (omega (arith, counted))
