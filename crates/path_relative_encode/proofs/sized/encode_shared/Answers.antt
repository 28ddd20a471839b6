use Rattle.codec.proofs.Prelude.{◌≡◌, refl, sym, ◌∙◌, arith, length, length-append}
use Rattle.std.proofs.Common.{Err, rules}
use Rattle.codec.specs.Answers.{encode_number}
use Rattle.codec.proofs.Lending.{put_wrote, length_in_room, writes_into, put_end, put_end_long, put_done, to_end}
use Rattle.path.specs.Record.{Path, sized}
use Rattle.path.specs.Flat.{path_in}
use Rattle.path.proofs.Components.{sized_formed}
use Rattle.path_suffix.specs.Suffix.{suffix_by}
use Rattle.compact_u64.specs.Number.{standalone_bytes}
use Rattle.path_relative.specs.Records.{shared_by}
use Rattle.path_relative.proofs.Writing.{rest_refused_writing, short_unchanged, within_by, written_by}
use Rattle.path_relative_encode.proofs.sized.encode_shared.Goals as goal

pub returns-then-buffer-n : goal.returns-then-buffer-n
returns-then-buffer-n c =
    let path : Path = path_in c.args.path.now in
    let f = shared_by sized c.args.k in
    let l = c.args.buffer.now in
    let short = short_unchanged (f.check path) (f.encode path) l (rw length-append (omega (arith, c.if-buffer-n.true, c.len_of_encoding-n.ensures.0))) in
    writes_into (length_in_room f path c.shared_len-whole.result c.in_room.result (length l) c.shared_len-whole.ensures c.in_room.ensures, short)

pub returns-in_err-suffix : goal.returns-in_err-suffix
returns-in_err-suffix c =
    let path : Path = path_in c.args.path.now in
    let f = suffix_by sized c.args.k in
    let n = c.len_of_encoding-n in
    let l = c.args.buffer.now in
    let e : c.from_residual.result ≡ Err c.in_err-suffix.field-0.0 = search rules in
    let w = c.in_err-suffix.ensures in
    let answer = rw (to_end n.result l) at w.answer in
    let bytes = rw (to_end n.result l) at w.buffer in
    let done = rest_refused_writing (standalone_bytes c.args.k) (f.encode path) l n.result n.ensures.0 c.if-buffer-n.false (f.check path)
    (encode_number c.in_err-suffix.field-0.0) _ (sym answer) bytes in
    rw e (writes_into (done.0, put_end n.result l _ ∙ done.1))

pub unwrap-requires : goal.unwrap-requires
unwrap-requires c =
    let n = c.len_of_encoding-n in
    let kept = put_end_long n.result c.args.buffer.now c.encode_suffix.new.buffer c.if-buffer-n.false c.encode_suffix.auto.buffer in
    rw (put_done (standalone_bytes c.args.k) _ c.encode.result (omega (arith, kept, n.ensures.0, c.if-buffer-n.false)) c.encode.ensures.0) refl

pub overflow_add-result : goal.overflow_add-result
overflow_add-result c =
    let path : Path = path_in c.args.path.now in
    let f = suffix_by sized c.args.k in
    let answer = sym (rw (to_end c.len_of_encoding-n.result c.args.buffer.now) at c.in_ok-suffix.ensures.answer) in
    let w = put_wrote (f.check path) (f.encode path) _ _ answer in
    omega (arith, w.long, within_by sized path c.args.k sized_formed w.allows, c.len_of_encoding-n.ensures)

pub returns : goal.returns
returns c =
    let path : Path = path_in c.args.path.now in
    let n = c.len_of_encoding-n in
    let l = c.args.buffer.now in
    let answer = sym (rw (to_end n.result l) at c.in_ok-suffix.ensures.answer) in
    let bytes = rw (to_end n.result l) at c.in_ok-suffix.ensures.buffer in
    let done = written_by sized path c.args.k l n.result n.ensures.0 c.if-buffer-n.false _ _ answer bytes in
    writes_into (done.0, rw (put_end n.result l _) at c.encode.ensures.1 ∙ done.1)
