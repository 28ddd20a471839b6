use Rattle.codec.proofs.Prelude.{refl, ◌∙◌, arith, length-set, set}
use Rattle.compact_u64.specs.Number.{standalone_bytes}
use Rattle.codec.specs.Format.{allowed}
use Rattle.codec.proofs.Lending.{put_full, put_fits, to_end, put_end, put_end_long}
use Rattle.compact_u64.proofs.Exits.{standalone_put}
use Rattle.compact_u64.proofs.encode.Goals as goal

pub returns-then-buffer-whole : goal.returns-then-buffer-whole
returns-then-buffer-whole c =
    put_full allowed (standalone_bytes c.args.value) c.args.buffer.now refl _ c.len_of_encoding-whole.ensures.0 c.if-buffer-whole.true

pub slice_bounds-put_number-count : goal.slice_bounds-put_number-count
slice_bounds-put_number-count c = simp length-set (omega arith)

pub slice_bounds-put_number-start : goal.slice_bounds-put_number-start
slice_bounds-put_number-start c = simp length-set (omega arith)

pub shape_of-buffer : goal.shape_of-buffer
shape_of-buffer c =
    let l = set c.args.buffer.now 0 c.min_tag.result in
    put_end_long 1 l c.put_number.new.buffer (simp length-set (omega arith)) c.put_number.auto.buffer ∙ simp length-set

pub returns : goal.returns
returns c =
    let a = c.args in
    let n = c.len_of_encoding-whole in
    let tag = c.min_tag in
    let room = c.if-buffer-whole.false in
    let l = set a.buffer.now 0 tag.result in
    let p = rw (to_end 1 l) at c.put_number.ensures.1 in
    let f = put_fits allowed (standalone_bytes a.value) a.buffer.now refl n.result n.ensures.0 room in (
      f.0,
      put_end 1 l c.put_number.new.buffer ∙ rw p (standalone_put a.buffer.now a.value tag.result tag.ensures (omega arith) ∙ f.1),
    )
