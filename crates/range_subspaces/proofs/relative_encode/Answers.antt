use Rattle.codec.proofs.Prelude.{refl}
use Rattle.codec.specs.Format.{allowed}
use Rattle.codec.proofs.Lending.{put_full}
use Rattle.codec.proofs.Pairs.{first_not_refused, second_starts, second_not_refused, both_put}
use Rattle.range_subspaces.specs.Subspaces.{subspaces_bytes}
use Rattle.range_subspaces.proofs.Writing.{bytes_of}
use Rattle.range_subspaces.proofs.relative_encode.Goals as goal

pub returns-then-buffer-whole : goal.returns-then-buffer-whole
returns-then-buffer-whole c =
    let a = c.args in
    let n = c.relative_len_of_encoding-whole in
    put_full allowed (subspaces_bytes a.reference a.subspaces) a.buffer.now refl n.result n.ensures.0 c.if-buffer-whole.true

pub returns-in_err-n : goal.returns-in_err-n
returns-in_err-n c =
    let a = c.args in
    let bytes = bytes_of a.reference a.subspaces c.id_bytes.ensures.0 refl in
    absurd (first_not_refused _ _ a.buffer.now bytes c.relative_len_of_encoding-whole.ensures.0 c.if-buffer-whole.false c.in_err-n.ensures.put.0)

pub slice_bounds-put_bytes-count : goal.slice_bounds-put_bytes-count
slice_bounds-put_bytes-count c =
    let a = c.args in
    let bytes = bytes_of a.reference a.subspaces c.id_bytes.ensures.0 refl in
    second_starts _ _ a.buffer.now bytes c.relative_len_of_encoding-whole.ensures.0 c.if-buffer-whole.false c.in_ok-n.ensures.put.0 _ c.put_bytes.auto.buffer

pub slice_bounds-put_bytes-start : goal.slice_bounds-put_bytes-start
slice_bounds-put_bytes-start c =
    let a = c.args in
    let bytes = bytes_of a.reference a.subspaces c.id_bytes.ensures.0 refl in
    second_starts _ _ a.buffer.now bytes c.relative_len_of_encoding-whole.ensures.0 c.if-buffer-whole.false c.in_ok-n.ensures.put.0 _ c.put_bytes.auto.buffer

pub returns-in_err-put_bytes : goal.returns-in_err-put_bytes
returns-in_err-put_bytes c =
    let a = c.args in
    let bytes = bytes_of a.reference a.subspaces c.id_bytes.ensures.0 c.end_bytes.ensures.0 in
    absurd (second_not_refused _ _ a.buffer.now bytes c.relative_len_of_encoding-whole.ensures.0 c.if-buffer-whole.false c.in_ok-n.ensures.put.0 _ c.put_bytes.auto.buffer c.in_err-put_bytes.ensures.put.0)

pub returns : goal.returns
returns c =
    let a = c.args in
    let bytes = bytes_of a.reference a.subspaces c.id_bytes.ensures.0 c.end_bytes.ensures.0 in
    both_put _ _ a.buffer.now bytes c.relative_len_of_encoding-whole.ensures.0 c.if-buffer-whole.false c.in_ok-n.ensures.put.0 _ c.put_bytes.auto.buffer c.put_bytes.ensures.put.1 _ c.put_bytes-2.ensures.put.1
