use Rattle.codec.proofs.Prelude.{◌≡◌, sym}
use Rattle.std.proofs.Common.{Err, rules}
use Rattle.codec.specs.declared.EncodeError.TheVariants as encoding
use Rattle.path.specs.Flat.{path_in}
use Rattle.path_relative_encode.specs.Shared.{shared_bytes}
use Rattle.path_relative_encode.proofs.Shared.{shared_fits}
use Rattle.entry_area.proofs.Writing.{unformed, outside, contained, shared_allowed, entry_bytes_lem}
use Rattle.entry_area_encode.proofs.entry_encode.Difference.within.Goals as goal

pub returns-in_err-inside : goal.returns-in_err-inside
returns-in_err-inside c =
    let a = c.args in
    let e : c.from_residual.result ≡ Err encoding.Malformed = search rules in
    rw e (record { ok = tt; err = unformed a.namespace a.reference.head a.entry.fields a.reference.path.now (path_in a.entry.path.now) c.in_err-inside.ensures })

pub returns-then-not-inside-clause-err : goal.returns-then-not-inside-clause-err
returns-then-not-inside-clause-err c =
    let a = c.args in
    outside a.namespace a.reference.head a.entry.fields a.reference.path.now (path_in a.entry.path.now) (rw c.if-not-inside.true at c.in_ok-inside.ensures)

pub invariant_of-path : goal.invariant_of-path
invariant_of-path c =
    let a = c.args in
    let yes = rw c.if-not-inside.false at c.in_ok-inside.ensures in
    record { fits = shared_fits (path_in a.entry.path.now) _ (shared_allowed a.namespace a.reference.head a.entry.fields a.reference.path.now (path_in a.entry.path.now) yes _ c.count.ensures) }

pub returns-clause-ok : goal.returns-clause-ok
unfolding shared_bytes
returns-clause-ok c =
    let a = c.args in
    let yes = rw c.if-not-inside.false at c.in_ok-inside.ensures in (
      contained a.namespace a.reference.head a.entry.fields a.reference.path.now (path_in a.entry.path.now) yes,
      sym (entry_bytes_lem a.namespace a.reference.head a.entry.fields a.reference.path.now (path_in a.entry.path.now) yes _ c.count.ensures),
    )
