use Rattle.codec.proofs.Prelude.{refl}
use Rattle.codec.specs.Format.{allowed}
use Rattle.codec.proofs.Lending.{put_full, put_fits}
use Rattle.path_relative_encode.specs.Shared.{shared_bytes}
use Rattle.entry_area.specs.inside.Writing.{known_bytes}
use Rattle.entry_area_encode.proofs.entry_encode.Difference.encode.Goals as goal

pub returns-then-buffer-whole : goal.returns-then-buffer-whole
returns-then-buffer-whole c =
    let s = c.args.self in
    put_full allowed (known_bytes s.reference s.fields (shared_bytes s.path)) c.args.buffer.now refl c.len-whole.result c.len-whole.ensures c.if-buffer-whole.true

pub returns : goal.returns
returns c =
    let s = c.args.self in
    rw c.put.ensures (put_fits allowed (known_bytes s.reference s.fields (shared_bytes s.path)) c.args.buffer.now refl c.len-whole.result c.len-whole.ensures c.if-buffer-whole.false)
