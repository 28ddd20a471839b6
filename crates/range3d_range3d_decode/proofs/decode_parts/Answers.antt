use Rattle.codec.proofs.Prelude.{◌≡◌, arith}
use Rattle.std.proofs.Common.{Err, rules}
use Rattle.codec.proofs.Lending.{to_end}
use Rattle.range_3d.specs.Record.{range_lent}
use Rattle.range3d_range3d.proofs.DecodeExits.{no_ids, ids_within, no_ends, range_read, range_within}
use Rattle.range3d_range3d_decode.proofs.decode_parts.Goals as goal

pub returns-in_err-subspaces : goal.returns-in_err-subspaces
returns-in_err-subspaces c =
    let a = c.args in
    let why = c.in_err-subspaces.field-0.0 in
    let e : c.from_residual.result ≡ Err why = search rules in
    rw e (no_ids (range_lent a.reference) c.requires.1 a.header a.times a.message.now why c.requires.2 c.requires.3 c.in_err-subspaces.ensures)

pub slice_bounds-rest-count : goal.slice_bounds-rest-count
slice_bounds-rest-count c =
    let a = c.args in
    ids_within (range_lent a.reference) c.requires.1 a.header a.times a.message.now _ _ c.in_ok-subspaces.ensures

pub slice_bounds-rest-start : goal.slice_bounds-rest-start
slice_bounds-rest-start c =
    let a = c.args in
    omega (arith, ids_within (range_lent a.reference) c.requires.1 a.header a.times a.message.now _ _ c.in_ok-subspaces.ensures)

pub returns-in_err-times : goal.returns-in_err-times
returns-in_err-times c =
    let a = c.args in
    let why = c.in_err-times.field-0.0 in
    let e : c.from_residual-in_err-times.result ≡ Err why = search rules in
    let rest = rw (to_end c.in_ok-subspaces.subspaces.consumed a.message.now) at c.in_err-times.ensures in
    rw e (no_ends (range_lent a.reference) c.requires.1 a.header a.times a.message.now _ _ c.in_ok-subspaces.ensures why rest)

pub overflow_add-result : goal.overflow_add-result
overflow_add-result c =
    let a = c.args in
    let rest = rw (to_end c.in_ok-subspaces.subspaces.consumed a.message.now) at c.in_ok-times.ensures in
    omega (arith, c.requires.0, range_within (range_lent a.reference) c.requires.1 a.header a.times a.message.now _ _ c.in_ok-subspaces.ensures _ rest.reads.answer)

pub overflow_add-result-2 : goal.overflow_add-result-2
overflow_add-result-2 c =
    let a = c.args in
    let rest = rw (to_end c.in_ok-subspaces.subspaces.consumed a.message.now) at c.in_ok-times.ensures in
    omega (arith, c.requires.0, range_within (range_lent a.reference) c.requires.1 a.header a.times a.message.now _ _ c.in_ok-subspaces.ensures _ rest.reads.answer)

pub returns : goal.returns
returns c =
    let a = c.args in
    let rest = rw (to_end c.in_ok-subspaces.subspaces.consumed a.message.now) at c.in_ok-times.ensures in
    range_read (range_lent a.reference) c.requires.1 a.header a.times a.message.now _ _ c.in_ok-subspaces.ensures _ _ rest
