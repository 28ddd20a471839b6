use Rattle.codec.proofs.Prelude.{◌≡◌, ap, ◌∙◌, arith}
use Rattle.std.proofs.Common.{Err, rules}
use Rattle.codec.proofs.Lending.{to_end}
use Rattle.path.specs.Flat.{path_in}
use Rattle.path.proofs.Growing.{in_empty}
use Rattle.range_3d.specs.Record.{paths_lent}
use Rattle.range3d_range3d.proofs.DecodeExits.{no_paths, paths_within, no_times, ends_read, ends_within}
use Rattle.range3d_range3d_decode.proofs.decode_rest.Goals as goal

pub returns-in_err-paths : goal.returns-in_err-paths
returns-in_err-paths c =
    let a = c.args in
    let why = c.in_err-paths.field-0.0 in
    let e : c.from_residual.result ≡ Err why = search rules in
    rw e (no_paths (paths_lent a.reference.paths) a.reference.times a.header a.times a.message.now why c.in_err-paths.ensures)

pub slice_bounds-rest-count : goal.slice_bounds-rest-count
slice_bounds-rest-count c =
    let a = c.args in
    paths_within (paths_lent a.reference.paths) a.reference.times a.header a.times a.message.now _ c.in_ok-paths.ensures

pub slice_bounds-rest-start : goal.slice_bounds-rest-start
slice_bounds-rest-start c =
    let a = c.args in
    omega (arith, paths_within (paths_lent a.reference.paths) a.reference.times a.header a.times a.message.now _ c.in_ok-paths.ensures)

pub overflow_add-result : goal.overflow_add-result
overflow_add-result c =
    let a = c.args in
    let times = rw (to_end c.in_ok-paths.paths a.message.now) at c.in-Ok.ensures in
    omega (arith, ends_within (paths_lent a.reference.paths) a.reference.times a.header a.times a.message.now _ c.in_ok-paths.ensures _ _ times)

pub returns-in-Ok : goal.returns-in-Ok
returns-in-Ok c =
    let a = c.args in
    let times = rw (to_end c.in_ok-paths.paths a.message.now) at c.in-Ok.ensures in
    ends_read (paths_lent a.reference.paths) a.reference.times a.header a.times a.message.now _ c.in_ok-paths.ensures _ _ times

pub returns-in-Err : goal.returns-in-Err
returns-in-Err c =
    let a = c.args in
    let times = rw (to_end c.in_ok-paths.paths a.message.now) at c.in-Err.ensures in
    no_times (paths_lent a.reference.paths) a.reference.times a.header a.times a.message.now _ c.in_ok-paths.ensures c.in-Err.refusal
    (ap path_in c.clear.ensures ∙ in_empty) (ap path_in c.clear-in-Err.ensures ∙ in_empty) times
