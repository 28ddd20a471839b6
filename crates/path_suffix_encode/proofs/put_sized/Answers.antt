use Rattle.codec.proofs.Prelude.{◌≡◌, refl, arith, length, length-append}
use Rattle.std.proofs.Common.{rules}
use Rattle.compact_u64.specs.Number.{standalone_bytes}
use Rattle.path_suffix.proofs.Writing.{length_put, sized_put}
use Rattle.path_suffix_encode.proofs.put_sized.Goals as goal

pub unwrap-n-requires : goal.unwrap-n-requires
unwrap-n-requires c =
    let a = c.args in
    rw (length_put a.s.now a.buffer.now c.requires c.encode.result c.encode.ensures.0) refl

pub overflow_add-end : goal.overflow_add-end
overflow_add-end c =
    let a = c.args in
    let told = length_put a.s.now a.buffer.now c.requires c.encode.result c.encode.ensures.0 in
    let n : c.unwrap-n.result ≡ length (standalone_bytes (length a.s.now)) = cc in
    omega (arith, n, length-append (standalone_bytes (length a.s.now)) a.s.now, c.requires)

pub slice_bounds-put_bytes-end : goal.slice_bounds-put_bytes-end
slice_bounds-put_bytes-end c =
    let a = c.args in
    let told = length_put a.s.now a.buffer.now c.requires c.encode.result c.encode.ensures.0 in
    let n : c.unwrap-n.result ≡ length (standalone_bytes (length a.s.now)) = cc in
    omega (arith, n, length-append (standalone_bytes (length a.s.now)) a.s.now, c.requires)

pub returns : goal.returns
returns c =
    let a = c.args in
    let told = length_put a.s.now a.buffer.now c.requires c.encode.result c.encode.ensures.0 in
    let n : c.unwrap-n.result ≡ length (standalone_bytes (length a.s.now)) = cc in (
      omega (arith, n, length-append (standalone_bytes (length a.s.now)) a.s.now),
      sized_put a.s.now a.buffer.now c.requires _ _ n (omega arith) c.encode.ensures.1 (c.put_bytes.ensures.whole (search rules)).1,
    )
