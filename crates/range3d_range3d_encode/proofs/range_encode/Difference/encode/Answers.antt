use Rattle.codec.proofs.Prelude.{refl, ◌≡◌, ap, ◌∙◌, List, ◌++◌, ℕ, ◌+◌, ◌≤◌, arith, length, length-append}
use Rattle.codec.specs.Format.{over}
use Rattle.codec.proofs.Lending.{put_done, put_full, put_fits, writes_into}
use Rattle.range_3d.specs.Record.{range_lent}
use Rattle.range_subspaces.specs.Subspaces.{subspaces_bytes}
use Rattle.range_paths.specs.inside.Writing.{both_bytes}
use Rattle.range_times.specs.Times.{times_bytes}
use Rattle.range_header.specs.Header.{header_length}
use Rattle.range3d_range3d.specs.Records.{against_range}
use Rattle.range3d_range3d.specs.inside.Writing.{head_with}
use Rattle.range3d_range3d.proofs.Writing.{range_long, measured_parts, over_next, next_room, put_next}
use Rattle.range3d_range3d_encode.proofs.Known.{known}
use Rattle.range3d_range3d_encode.proofs.range_encode.Difference.encode.Goals as goal

pub overflow_add-t : goal.overflow_add-t
overflow_add-t c = omega (arith, (known c.args.self).short)

pub overflow_add-whole : goal.overflow_add-whole
overflow_add-whole c = omega (arith, (known c.args.self).short)

pub returns-then-buffer-whole : goal.returns-then-buffer-whole
returns-then-buffer-whole c =
    let reference = range_lent c.args.self.reference in
    let range = range_lent c.args.self.range in
    let k = known c.args.self in
    let long = range_long reference range k _ _ c.relative_len_of_encoding-s.ensures.0 c.relative_len_of_encoding.ensures.0 in
    let whole = header_length + c.relative_len_of_encoding-s.result + c.args.self.paths.len + c.relative_len_of_encoding.result in
    writes_into (put_full ((against_range reference).check range) ((against_range reference).encode range) c.args.buffer.now k.allows whole (omega (arith, long)) (omega (arith, c.if-buffer-whole.true)))

pub unwrap-requires : goal.unwrap-requires
unwrap-requires c =
    let ids = subspaces_bytes c.args.self.reference.subspaces c.args.self.range.subspaces in
    rw (put_done ids _ c.relative_encode.result (omega (arith, c.put_head.auto.buffer, c.if-buffer-whole.false, c.relative_len_of_encoding-s.ensures.0)) c.relative_encode.ensures.0) refl

pub put_paths-requires : goal.put_paths-requires
put_paths-requires c =
    let reference = range_lent c.args.self.reference in
    let range = range_lent c.args.self.range in
    let m = c.args.self.paths in
    let k = known c.args.self in
    let l = c.args.buffer.now in
    let head : List ℕ = head_with reference range m in
    let subspaces : List ℕ = subspaces_bytes reference.subspaces range.subspaces in
    let paths : List ℕ = both_bytes range.paths m in
    let s = c.relative_len_of_encoding-s in
    let start : header_length + s.result ≡ length (head ++ subspaces) = omega (arith, length-append head subspaces, s.ensures.0) in
    let room : length (head ++ subspaces) + length paths ≤ length l = omega (arith, start, c.if-buffer-whole.false, k.long) in
    let two = put_next l head subspaces _ header_length c.put_head.ensures refl (omega (arith, length-append head subspaces, room)) _ c.relative_encode.ensures.1 in
    next_room l (head ++ subspaces) paths _ _ two start room

pub unwrap-requires-2 : goal.unwrap-requires-2
unwrap-requires-2 c =
    let times = times_bytes c.args.self.reference.times c.args.self.range.times in
    rw (put_done times _ c.relative_encode-2.result (omega (arith, c.put_head.auto.buffer, c.if-buffer-whole.false, c.relative_len_of_encoding.ensures.0)) c.relative_encode-2.ensures.0) refl

pub returns : goal.returns
returns c =
    let reference = range_lent c.args.self.reference in
    let range = range_lent c.args.self.range in
    let m = c.args.self.paths in
    let k = known c.args.self in
    let l = c.args.buffer.now in
    let head : List ℕ = head_with reference range m in
    let subspaces : List ℕ = subspaces_bytes reference.subspaces range.subspaces in
    let paths : List ℕ = both_bytes range.paths m in
    let times : List ℕ = times_bytes reference.times range.times in
    let s = c.relative_len_of_encoding-s in
    let t = c.relative_len_of_encoding in
    let long = range_long reference range k _ _ s.ensures.0 t.ensures.0 in
    let at_paths : header_length + s.result ≡ length (head ++ subspaces) = omega (arith, length-append head subspaces, s.ensures.0) in
    let at_times : header_length + s.result + m.len ≡ length ((head ++ subspaces) ++ paths) = omega (arith, length-append (head ++ subspaces) paths, at_paths, k.long) in
    let room : header_length + length subspaces + length paths + length times ≤ length l = omega (arith, c.if-buffer-whole.false, s.ensures.0, k.long, t.ensures.0) in
    let room_times : length ((head ++ subspaces) ++ paths) + length times ≤ length l = omega (arith, length-append (head ++ subspaces) paths, length-append head subspaces, room) in
    let two = put_next l head subspaces _ header_length c.put_head.ensures refl (omega (arith, room)) _ c.relative_encode.ensures.1 in
    let three = over_next l (head ++ subspaces) paths _ _ two at_paths _ c.put_paths.ensures in
    let done = put_fits ((against_range reference).check range) ((against_range reference).encode range) l k.allows _ (omega (arith, long)) c.if-buffer-whole.false in
    let last = put_next l ((head ++ subspaces) ++ paths) times _ _ three at_times room_times _ c.relative_encode-2.ensures.1 in
    writes_into (done.0, last ∙ ap (λ (bs : List ℕ). over bs l) (measured_parts reference range m ∙ k.bytes) ∙ done.1)
