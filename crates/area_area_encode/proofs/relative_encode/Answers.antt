use Rattle.codec.proofs.Prelude.{◌≡◌, sym, ◌∙◌, arith, length}
use Rattle.std.proofs.Common.{Err, rules}
use Rattle.codec.specs.Answers.{encode_number}
use Rattle.codec.proofs.Lending.{put_refused_value, put_wrote, length_in_room, to_end, put_end, writes_into}
use Rattle.path.specs.Record.{sized}
use Rattle.path_relative.specs.Records.{extends_by}
use Rattle.path_relative.proofs.Writing.{short_unchanged}
use Rattle.path_relative.proofs.Lent.{extends_short}
use Rattle.grouping.specs.Record.{Area, area_lent}
use Rattle.area_area.specs.Records.{against_area}
use Rattle.area_area.specs.inside.Writing.{IsInHead}
use Rattle.area_area.proofs.Writing.{area_longer, area_refused, area_written}
use Rattle.area_area_encode.proofs.relative_encode.Goals as goal

pub returns-in_err-check : goal.returns-in_err-check
returns-in_err-check c =
    let e : c.from_residual.result ≡ Err c.in_err-check.field-0.0 = search rules in
    rw e (writes_into (put_refused_value _ ((against_area (area_lent c.args.reference)).encode (area_lent c.args.area)) c.args.buffer.now _ c.in_err-check.ensures.err))

pub returns-then-buffer-head : goal.returns-then-buffer-head
returns-then-buffer-head c =
    let area : Area = area_lent c.args.area in
    let reference : Area = area_lent c.args.reference in
    let f = against_area reference in
    let l = c.args.buffer.now in
    let short = short_unchanged (f.check area) (f.encode area) l (omega (arith, c.if-buffer-head.true, area_longer reference area _ c.head_len-head.ensures.0)) in
    writes_into (length_in_room f area c.relative_len_of_encoding-whole.result c.in_room.result (length l) c.relative_len_of_encoding-whole.ensures c.in_room.ensures, short)

pub returns-in_err-path : goal.returns-in_err-path
returns-in_err-path c =
    let area : Area = area_lent c.args.area in
    let reference : Area = area_lent c.args.reference in
    let h : IsInHead reference area = c.in_ok-check.ensures.ok in
    let n = c.head_len-head in
    let l = c.args.buffer.now in
    let e : c.from_residual-in_err-path.result ≡ Err c.in_err-path.field-0.0 = search rules in
    let answer = rw (to_end n.result l) at c.in_err-path.ensures.answer in
    let bytes = rw (to_end n.result l) at c.in_err-path.ensures.buffer in
    let done = area_refused reference area h.formed h.inside n.result n.ensures.0 l c.if-buffer-head.false (encode_number c.in_err-path.field-0.0) _ (sym answer) bytes in
    rw e (writes_into (done.0, put_end n.result l _ ∙ done.1))

pub overflow_add-result : goal.overflow_add-result
overflow_add-result c =
    let area : Area = area_lent c.args.area in
    let reference : Area = area_lent c.args.reference in
    let f = extends_by sized reference.path in
    let answer = sym (rw (to_end c.head_len-head.result c.args.buffer.now) at c.in_ok-path.ensures.answer) in
    let w = put_wrote (f.check area.path) (f.encode area.path) _ _ answer in
    omega (arith, w.long, extends_short reference.path area.path w.allows, c.head_len-head.ensures.1)

pub returns : goal.returns
returns c =
    let area : Area = area_lent c.args.area in
    let reference : Area = area_lent c.args.reference in
    let h : IsInHead reference area = c.in_ok-check.ensures.ok in
    let n = c.head_len-head in
    let l = c.args.buffer.now in
    let answer = sym (rw (to_end n.result l) at c.in_ok-path.ensures.answer) in
    let bytes = rw (to_end n.result l) at c.in_ok-path.ensures.buffer in
    let done = area_written reference area h.formed h.inside n.result n.ensures.0 l c.if-buffer-head.false _ _ answer bytes in
    writes_into (done.0, rw (put_end n.result l _) at c.put_head.ensures ∙ done.1)
