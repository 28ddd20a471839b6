use Rattle.codec.proofs.Prelude.{◌≡◌, refl, arith, length}
use Rattle.path.specs.Record.{sized}
use Rattle.path.specs.Flat.{path_in}
use Rattle.path_relative.specs.Records.{shared_by}
use Rattle.range_3d.specs.Record.{paths_lent}
use Rattle.range3d_range3d.proofs.Writing.{end_measured, first_done, both_open, first_inside, last_done, both_over}
use Rattle.range3d_range3d_encode.proofs.Known.{known}
use Rattle.range3d_range3d_encode.proofs.range_encode.Difference.put_paths.Goals as goal

pub unwrap-n-requires : goal.unwrap-n-requires
unwrap-n-requires c =
    let s = c.args.self in
    rw (first_done (paths_lent s.range.paths) s.paths c.args.buffer.now ((known s).shares, c.requires) c.encode_shared.ensures) refl

pub unwrap-shared-requires : goal.unwrap-shared-requires
unwrap-shared-requires c =
    let s = c.args.self in
    end_measured _ s.paths.end (rw c.in-Some.is at (known s).shares.end)

pub slice_bounds-encode_shared-count : goal.slice_bounds-encode_shared-count
slice_bounds-encode_shared-count c =
    let s = c.args.self in
    let paths = paths_lent s.range.paths in
    let done = first_done paths s.paths c.args.buffer.now ((known s).shares, c.requires) c.encode_shared.ensures in
    let n : c.unwrap-n.result ≡ length ((shared_by sized s.paths.start.shared).encode paths.start) = cc in
    first_inside paths s.paths c.args.buffer.now ((known s).shares, c.requires) c.encode_shared.ensures {p = path_in c.in-Some.end.now} (rw c.in-Some.is refl) c.unwrap-shared.ensures n

pub slice_bounds-encode_shared-start : goal.slice_bounds-encode_shared-start
slice_bounds-encode_shared-start c =
    let s = c.args.self in
    let paths = paths_lent s.range.paths in
    let done = first_done paths s.paths c.args.buffer.now ((known s).shares, c.requires) c.encode_shared.ensures in
    let n : c.unwrap-n.result ≡ length ((shared_by sized s.paths.start.shared).encode paths.start) = cc in
    omega (arith, first_inside paths s.paths c.args.buffer.now ((known s).shares, c.requires) c.encode_shared.ensures {p = path_in c.in-Some.end.now} (rw c.in-Some.is refl) c.unwrap-shared.ensures n)

pub unwrap-requires : goal.unwrap-requires
unwrap-requires c =
    let s = c.args.self in
    let paths = paths_lent s.range.paths in
    let done = first_done paths s.paths c.args.buffer.now ((known s).shares, c.requires) c.encode_shared.ensures in
    let n : c.unwrap-n.result ≡ length ((shared_by sized s.paths.start.shared).encode paths.start) = cc in
    rw (last_done paths s.paths c.args.buffer.now ((known s).shares, c.requires) c.encode_shared.ensures {p = path_in c.in-Some.end.now} (rw c.in-Some.is refl) c.unwrap-shared.ensures n c.encode_shared-in-Some.ensures) refl

pub returns-in-Some : goal.returns-in-Some
returns-in-Some c =
    let s = c.args.self in
    let paths = paths_lent s.range.paths in
    let done = first_done paths s.paths c.args.buffer.now ((known s).shares, c.requires) c.encode_shared.ensures in
    let n : c.unwrap-n.result ≡ length ((shared_by sized s.paths.start.shared).encode paths.start) = cc in
    both_over paths s.paths c.args.buffer.now ((known s).shares, c.requires) c.encode_shared.ensures {p = path_in c.in-Some.end.now} (rw c.in-Some.is refl) c.unwrap-shared.ensures n c.encode_shared-in-Some.ensures

pub returns-in_default : goal.returns-in_default
returns-in_default c =
    let s = c.args.self in
    both_open (paths_lent s.range.paths) s.paths c.args.buffer.now ((known s).shares, c.requires) c.encode_shared.ensures (rw c.in_default.is refl)
