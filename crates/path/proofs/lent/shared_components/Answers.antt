use Rattle.codec.proofs.Prelude.{◌≡◌, sym, ◌∙◌, ap, arith, length}
use Rattle.path.specs.Record.{length_at}
use Rattle.path.specs.Flat.{path_in}
use Rattle.path.proofs.Components.{sized_formed}
use Rattle.path.proofs.Compare.{together, together_next, ends_here, left_inside, lengths_differ, bytes_differ}
use Rattle.path.proofs.lent.shared_components.Goals as goal

pub loop-k-init : goal.loop-k-init
unfolding path_in
loop-k-init c = record { ends = c.from-both.ensures ∙ c.min.ensures; same = together (sized_formed c.requires.0) (sized_formed c.requires.1) }

pub length_in-len-requires : goal.length_in-len-requires
length_in-len-requires c = let w = c.loop-k.invariant in omega (arith, w.ends, w.same.left.well.count)

pub length_in-requires : goal.length_in-requires
length_in-requires c = let w = c.loop-k.invariant in omega (arith, w.ends, w.same.right.well.count)

pub returns-then-len-length_in : goal.returns-then-len-length_in
unfolding length_at
returns-then-len-length_in c =
    let w = c.loop-k.invariant in
    sym (lengths_differ w.same (omega (arith, w.ends)) (omega (arith, w.ends)) (λ e. c.if-len-length_in.true (c.length_in-len.ensures.0 ∙ e ∙ sym c.length_in.ensures.0)))

pub overflow_add-end : goal.overflow_add-end
unfolding length_at
overflow_add-end c =
    let w = c.loop-k.invariant in
    omega (arith, left_inside w.same (omega (arith, w.ends)) (omega (arith, w.ends)), c.length_in-len.ensures.0)

pub slice_bounds-ne-end : goal.slice_bounds-ne-end
unfolding length_at
slice_bounds-ne-end c =
    let w = c.loop-k.invariant in
    omega (arith, left_inside w.same (omega (arith, w.ends)) (omega (arith, w.ends)), c.length_in-len.ensures.0, ap length c.bytes_in-bytes.ensures, w.same.left.bytes)

pub slice_bounds-ne-end-in-loop-k : goal.slice_bounds-ne-end-in-loop-k
unfolding length_at
slice_bounds-ne-end-in-loop-k c =
    let w = c.loop-k.invariant in
    omega (arith, left_inside w.same (omega (arith, w.ends)) (omega (arith, w.ends)), c.length_in-len.ensures.0, ap length c.bytes_in-other_bytes.ensures, w.same.right.bytes)

pub returns-then-ne : goal.returns-then-ne
unfolding length_at
returns-then-ne c =
    let w = c.loop-k.invariant in
    let len = c.length_in-len.ensures.0 in
    let same = sym len ∙ c.if-len-length_in.false ∙ c.length_in.ensures.0 in
    sym (bytes_differ w.same (omega (arith, w.ends)) (omega (arith, w.ends)) same (rw (c.bytes_in-bytes.ensures, c.bytes_in-other_bytes.ensures, len) at c.if-ne.ensures))

pub loop-k-preserved : goal.loop-k-preserved
unfolding length_at
loop-k-preserved c =
    let w = c.loop-k.invariant in
    let len = c.length_in-len.ensures.0 in
    let same = sym len ∙ c.if-len-length_in.false ∙ c.length_in.ensures.0 in
    record {
      ends = w.ends;
      same = rw len (together_next w.same (omega (arith, w.ends)) (omega (arith, w.ends)) same (rw (c.bytes_in-bytes.ensures, c.bytes_in-other_bytes.ensures, len) at c.if-ne.ensures));
    }

pub returns : goal.returns
returns c =
    let w = c.loop-k.invariant in
    let e : c.loop-k.k ≡ c.from-both.result = omega (arith, c.loop-k-test.false, c.loop-k.auto.k-end) in
    sym (ends_here w.same (omega (arith, w.ends, e)) ∙ e)
