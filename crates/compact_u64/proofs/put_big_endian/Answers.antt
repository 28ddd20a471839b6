use Rattle.codec.proofs.Prelude.{refl, sym}
use Rattle.codec.specs.Format.{allowed}
use Rattle.codec.proofs.Lending.{put_full, put_fits}
use Rattle.compact_u64.specs.BigEndian.{big_endian}
use Rattle.compact_u64.proofs.BigEndian.{length-big_endian}
use Rattle.compact_u64.proofs.put_big_endian.Goals as goal

pub returns-then-buffer-n : goal.returns-then-buffer-n
returns-then-buffer-n c =
    let a = c.args in
    put_full allowed (big_endian a.n a.value) a.buffer.now refl a.n (sym (length-big_endian a.n a.value)) c.if-buffer-n.true

pub returns : goal.returns
returns c =
    let a = c.args in
    rw c.fill_big_endian.ensures (put_fits allowed (big_endian a.n a.value) a.buffer.now refl a.n (sym (length-big_endian a.n a.value)) c.if-buffer-n.false)
