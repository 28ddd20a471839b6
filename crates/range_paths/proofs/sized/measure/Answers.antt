use Rattle.std.proofs.Common.{◌≡◌, Err, rules}
use Rattle.path.specs.Flat.{path_in}
use Rattle.path_relative_encode.specs.Shared.{shared_bytes}
use Rattle.path_relative_encode.proofs.Shared.{shared_fits}
use Rattle.range_3d.specs.Record.{paths_lent}
use Rattle.range_paths.proofs.Writing.{near_allowed, no_start, no_end_lem, measured_open, measured_closed}
use Rattle.range_paths.proofs.sized.measure.Goals as goal

pub returns-in_err-start : goal.returns-in_err-start
returns-in_err-start c =
    let e : c.from_residual.result ≡ Err (record {}) = search rules in
    rw e (no_start (paths_lent c.args.reference) (paths_lent c.args.paths) c.in_err-start.ensures)

pub invariant_of-len : goal.invariant_of-len
invariant_of-len c = record { fits = shared_fits (path_in c.args.paths.start.now) _ (near_allowed (paths_lent c.args.reference) _ _ c.in_ok-start.ensures) }

pub returns-in_default : goal.returns-in_default
unfolding shared_bytes
returns-in_default c =
    measured_open (paths_lent c.args.reference) (paths_lent c.args.paths) _ _ c.in_ok-start.ensures c.len-start_len.ensures.0 (rw c.in_default.is)

pub returns-in_err-end : goal.returns-in_err-end
returns-in_err-end c =
    let e : c.from_residual-in_err-end.result ≡ Err (record {}) = search rules in
    rw e (no_end_lem (paths_lent c.args.reference) (paths_lent c.args.paths) (path_in c.in-Some.path.now) (rw c.in-Some.is) c.in_err-end.ensures)

pub invariant_of-len-2 : goal.invariant_of-len-2
invariant_of-len-2 c = record { fits = shared_fits (path_in c.in-Some.path.now) _ (near_allowed (paths_lent c.args.reference) _ _ c.in_ok-end.ensures) }

pub returns : goal.returns
unfolding shared_bytes
returns c =
    measured_closed (paths_lent c.args.reference) (paths_lent c.args.paths) _ _ c.in_ok-start.ensures c.len-start_len.ensures.0
    (path_in c.in-Some.path.now) (rw c.in-Some.is) _ _ c.in_ok-end.ensures c.len.ensures.0
