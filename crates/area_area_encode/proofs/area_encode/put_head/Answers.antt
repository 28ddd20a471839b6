use Rattle.codec.proofs.Prelude.{◌≡◌, refl, ◌∙◌, arith, ◌≤◌, length, drop, length-append, length-drop}
use Rattle.codec.specs.Format.{over}
use Rattle.codec.proofs.Lending.{put_over, put_done, over_then, to_end, put_end}
use Rattle.area_times.specs.Times.{times_bytes}
use Rattle.area_area.specs.Area.{start_of}
use Rattle.area_area_encode.proofs.area_encode.put_head.Goals as goal

pub unwrap-requires : goal.unwrap-requires
unwrap-requires c =
    let a = c.args in
    let n = c.put_start-n in
    let t = times_bytes a.reference.times a.area.times in
    let parts = length-append (start_of a.reference.subspace a.reference.times a.area.subspace a.area.times) t in
    let room : length t ≤ length (drop n.result n.new.buffer) = rw length-drop (omega (arith, parts, c.requires, n.ensures.0, n.auto.buffer)) in
    rw (put_done t _ c.relative_encode.result (rw to_end room) c.relative_encode.ensures.0) refl

pub returns : goal.returns
returns c =
    let a = c.args in
    let n = c.put_start-n in
    let w = c.relative_encode in
    let s = start_of a.reference.subspace a.reference.times a.area.subspace a.area.times in
    let t = times_bytes a.reference.times a.area.times in
    let room : length t ≤ length (drop n.result n.new.buffer) = rw length-drop (omega (arith, length-append s t, c.requires, n.ensures.0, n.auto.buffer)) in
    let rest : w.new.buffer ≡ over t (drop n.result n.new.buffer) = rw (to_end n.result n.new.buffer) at w.ensures.1 ∙ put_over t (drop n.result n.new.buffer) room in
    put_end n.result n.new.buffer w.new.buffer ∙ rw (rest, n.ensures.1, n.ensures.0) (over_then a.buffer.now s t)
