use Rattle.path.specs.Flat.{path_in}
use Rattle.path_relative_encode.specs.Shared.{shared_bytes}
use Rattle.path_relative_encode.proofs.Shared.{shared_fits}
use Rattle.entry.specs.Record.{entry_lent}
use Rattle.entry_entry.proofs.Writing.{path_allowed, entry_allowed, entry_bytes_lem}
use Rattle.entry_entry_encode.proofs.entry_encode.Difference.between.Goals as goal

pub invariant_of-path : goal.invariant_of-path
invariant_of-path c =
    let a = c.args in
    record { fits = shared_fits (path_in a.entry.path.now) _ (path_allowed (entry_lent a.reference) (entry_lent a.entry) _ c.in_ok-shared.ensures) }

pub returns-clause-ok : goal.returns-clause-ok
unfolding shared_bytes
returns-clause-ok c =
    let a = c.args in
    (entry_allowed (entry_lent a.reference) (entry_lent a.entry) _ c.in_ok-shared.ensures, entry_bytes_lem (entry_lent a.reference) (entry_lent a.entry) _ c.in_ok-shared.ensures)
