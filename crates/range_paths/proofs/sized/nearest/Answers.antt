use Rattle.std.proofs.Common.{◌≡◌, Err, rules}
use Rattle.path.specs.Flat.{path_in}
use Rattle.range_3d.specs.Record.{paths_lent}
use Rattle.range_paths.proofs.Writing.{near_no_start, near_open, near_no_end, near_start, near_end}
use Rattle.range_paths.proofs.sized.nearest.Goals as goal

pub returns-in_err-shared : goal.returns-in_err-shared
returns-in_err-shared c =
    let e : c.from_residual.result ≡ Err (record {}) = search rules in
    rw e (near_no_start (paths_lent c.args.reference) (path_in c.args.path.now) c.in_err-shared.ensures)

pub returns-in_err-with_end : goal.returns-in_err-with_end
returns-in_err-with_end c =
    let e : c.from_residual-in_err-with_end.result ≡ Err (record {}) = search rules in
    rw e (near_no_end (paths_lent c.args.reference) (path_in c.args.path.now) (path_in c.in-Some.end.now) (rw c.in-Some.is) c.in_err-with_end.ensures)

pub returns-then-shared-with_end : goal.returns-then-shared-with_end
returns-then-shared-with_end c =
    near_end (paths_lent c.args.reference) (path_in c.args.path.now) (path_in c.in-Some.end.now) (rw c.in-Some.is) _ _ c.in_ok-shared.ensures c.in_ok-with_end.ensures c.if-shared-with_end.true

pub returns-else-shared-with_end : goal.returns-else-shared-with_end
returns-else-shared-with_end c =
    near_start (paths_lent c.args.reference) (path_in c.args.path.now) (path_in c.in-Some.end.now) (rw c.in-Some.is) _ _ c.in_ok-shared.ensures c.in_ok-with_end.ensures c.if-shared-with_end.false

pub returns-in_default : goal.returns-in_default
returns-in_default c = near_open (paths_lent c.args.reference) (path_in c.args.path.now) _ c.in_ok-shared.ensures (rw c.in_default.is)
