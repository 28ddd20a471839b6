use Rattle.codec.proofs.Prelude.{◌≤◌, refl, ◌∙◌, append-nil, arith, drop_of_length-le, length}
use Rattle.codec.specs.Format.{allowed}
use Rattle.codec.proofs.Lending.{put_full, put_fits}
use Rattle.byte_codec.proofs.put_bytes.Goals as goal

pub returns-then-buffer-s-clause-put : goal.returns-then-buffer-s-clause-put
returns-then-buffer-s-clause-put c = put_full allowed c.args.s.now c.args.buffer.now refl (length c.args.s.now) refl c.if-buffer-s.true

pub returns-clause-put : goal.returns-clause-put
returns-clause-put c =
    let s = c.args.s.now in
    rw c.fill.ensures (put_fits allowed s c.args.buffer.now refl (length s) refl c.if-buffer-s.false)

pub returns-clause-whole : goal.returns-clause-whole
returns-clause-whole c = λ long.
    let s = c.args.s.now in
    let none : length c.args.buffer.now ≤ length s = omega (arith, long) in
    (refl, c.fill.ensures ∙ rw (drop_of_length-le c.args.buffer.now none) (append-nil s))
