use Rattle.codec.proofs.Prelude.{refl, ◌∙◌}
use Rattle.std.specs.Prelude.{Ok}
use Rattle.codec.specs.Format.{allowed}
use Rattle.codec.proofs.Lending.{put_done, put_full, put_over}
use Rattle.codec.proofs.Pairs.{first_not_refused, second_starts, second_not_refused, both_put}
use Rattle.entry_area_end.specs.End.{end_of}
use Rattle.entry_area_end.proofs.Writing.{end_apart}
use Rattle.entry_area_end.proofs.relative_encode.Goals as goal

pub returns-then-buffer-whole-clause-writes : goal.returns-then-buffer-whole-clause-writes
returns-then-buffer-whole-clause-writes c =
    let a = c.args in
    let n = c.relative_len_of_encoding-whole in
    put_full allowed (end_of a.times a.end) a.buffer.now refl n.result n.ensures.0 c.if-buffer-whole.true

pub returns-in_err-n : goal.returns-in_err-n
returns-in_err-n c =
    let a = c.args in
    let bytes = end_apart a.times a.end _ c.difference-time.ensures in
    absurd (first_not_refused _ _ a.buffer.now bytes c.relative_len_of_encoding-whole.ensures.0 c.if-buffer-whole.false c.in_err-n.ensures.0)

pub slice_bounds-put_bytes-count : goal.slice_bounds-put_bytes-count
slice_bounds-put_bytes-count c =
    let a = c.args in
    let bytes = end_apart a.times a.end _ c.difference-time.ensures in
    second_starts _ _ a.buffer.now bytes c.relative_len_of_encoding-whole.ensures.0 c.if-buffer-whole.false c.in_ok-n.ensures.0 _ c.relative_encode_pair.auto.buffer

pub slice_bounds-put_bytes-start : goal.slice_bounds-put_bytes-start
slice_bounds-put_bytes-start c =
    let a = c.args in
    let bytes = end_apart a.times a.end _ c.difference-time.ensures in
    second_starts _ _ a.buffer.now bytes c.relative_len_of_encoding-whole.ensures.0 c.if-buffer-whole.false c.in_ok-n.ensures.0 _ c.relative_encode_pair.auto.buffer

pub returns-in_err-put_bytes : goal.returns-in_err-put_bytes
returns-in_err-put_bytes c =
    let a = c.args in
    let bytes = end_apart a.times a.end _ c.difference-time.ensures in
    absurd (second_not_refused _ _ a.buffer.now bytes c.relative_len_of_encoding-whole.ensures.0 c.if-buffer-whole.false c.in_ok-n.ensures.0 _ c.relative_encode_pair.auto.buffer c.in_err-put_bytes.ensures.put.0)

pub returns : goal.returns
returns c =
    let a = c.args in
    let bytes = end_apart a.times a.end _ c.difference-time.ensures in
    let w = both_put _ _ a.buffer.now bytes c.relative_len_of_encoding-whole.ensures.0 c.if-buffer-whole.false c.in_ok-n.ensures.0 _ c.relative_encode_pair.auto.buffer c.relative_encode_pair.ensures.1 _ c.put_bytes.ensures.put.1 in
    record { fits = λ room. (put_done (end_of a.times a.end) _ (Ok c.relative_len_of_encoding-whole.result) room w.0, w.1 ∙ put_over (end_of a.times a.end) a.buffer.now room); writes = w }
