use Rattle.codec.proofs.Prelude.{◌≡◌, refl, ◌++◌, ◌∙◌, arith, length, length-append, length-set}
use Rattle.compact_u64.specs.Number.{number_bytes}
use Rattle.compact_u64.proofs.Tags.{min_tag_fits}
use Rattle.path_suffix.specs.Header.{total_width, count_width}
use Rattle.path_suffix.proofs.Writing.{sizes_long, numbers_put, sizes_put}
use Rattle.path_suffix_encode.proofs.put_sizes.Goals as goal

pub pack_tags-requires : goal.pack_tags-requires
pack_tags-requires c = record {
  total = omega (arith, c.min_tag.ensures, min_tag_fits total_width c.args.sizes.total (omega arith));
  count = omega (arith, c.min_tag-2.ensures, min_tag_fits count_width c.args.sizes.count (omega arith));
}

pub bounds-buffer-0 : goal.bounds-buffer-0
bounds-buffer-0 c = omega (arith, sizes_long c.args.sizes, c.requires)

pub slice_bounds-numbers-count : goal.slice_bounds-numbers-count
slice_bounds-numbers-count c = simp length-set (omega (arith, sizes_long c.args.sizes, c.requires))

pub slice_bounds-numbers-start : goal.slice_bounds-numbers-start
slice_bounds-numbers-start c = simp length-set (omega (arith, sizes_long c.args.sizes, c.requires))

pub unwrap-requires : goal.unwrap-requires
unwrap-requires c =
    let a = c.args in
    rw (numbers_put a.sizes a.buffer.now c.requires c.pack_tags.result c.relative_encode_pair.result c.relative_encode_pair.ensures.0) refl

pub overflow_add-result : goal.overflow_add-result
overflow_add-result c =
    let a = c.args in
    let told = numbers_put a.sizes a.buffer.now c.requires c.pack_tags.result c.relative_encode_pair.result c.relative_encode_pair.ensures.0 in
    let n : c.unwrap.result ≡ length (number_bytes total_width a.sizes.total ++ number_bytes count_width a.sizes.count) = cc in
    omega (arith, n, sizes_long a.sizes, length-append (number_bytes total_width a.sizes.total) (number_bytes count_width a.sizes.count))

pub returns : goal.returns
returns c =
    let a = c.args in
    let told = numbers_put a.sizes a.buffer.now c.requires c.pack_tags.result c.relative_encode_pair.result c.relative_encode_pair.ensures.0 in
    let n : c.unwrap.result ≡ length (number_bytes total_width a.sizes.total ++ number_bytes count_width a.sizes.count) = cc in (
      omega (arith, n, sizes_long a.sizes, length-append (number_bytes total_width a.sizes.total) (number_bytes count_width a.sizes.count)),
      sizes_put a.sizes a.buffer.now c.requires c.pack_tags.result (c.pack_tags.ensures ∙ rw (c.min_tag.ensures, c.min_tag-2.ensures)) c.relative_encode_pair.ensures.1,
    )
