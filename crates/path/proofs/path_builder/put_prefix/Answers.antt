use Rattle.codec.proofs.Prelude.{◌∙◌, arith, take}
use Rattle.std.proofs.Common.{rules}
use Rattle.path.specs.Record.{components_of}
use Rattle.path.specs.Flat.{path_in}
use Rattle.path.proofs.Components.{sized_formed, prefix_count}
use Rattle.path.proofs.Growing.{recorded, prefix_bytes, prefix_lengths}
use Rattle.path.proofs.path_builder.put_prefix.Goals as goal

pub slice_bounds-put_bytes-end-3 : goal.slice_bounds-put_bytes-end-3
slice_bounds-put_bytes-end-3 c =
    let here = sized_formed c.requires.0.fits in
    omega (arith, here.well.count, c.requires.0.there)

pub overflow_cast-out : goal.overflow_cast-out
overflow_cast-out c =
    let here = sized_formed c.requires.0.fits in
    omega (arith, here.well.count, c.requires.0.there)

pub returns : goal.returns
returns c =
    let a = c.args in
    let there = c.requires.0.there in
    let here = sized_formed c.requires.0.fits in
    let count = prefix_count _ here a.k there in
    let bytes = (c.put_bytes.ensures.whole (search rules)).1 ∙ prefix_bytes a.path.now here a.k there a.total c.requires.1 in
    let lengths = (c.put_bytes-2.ensures.whole (search rules)).1 ∙ prefix_lengths a.path.now here a.k there (λ i. omega (arith, c.type_inv.path i)) in
    recorded a.out.now _ _ 0 0 _ _ a.k (take a.k (components_of (path_in a.path.now))) (omega arith) bytes (omega (arith, c.requires.1)) lengths (omega (arith, count)) (omega (arith, count))
