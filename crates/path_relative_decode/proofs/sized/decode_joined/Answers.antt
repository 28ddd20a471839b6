use Rattle.codec.proofs.Prelude.{◌≡◌, sym, Bool, true, cond, ℕ, eqb, arith}
use Rattle.std.proofs.Common.{Err, rules}
use Rattle.codec.proofs.Answers.{bind_refused, test_passed, test_failed}
use Rattle.path.specs.Record.{Path, components_of}
use Rattle.path.specs.Flat.{path_in}
use Rattle.path.specs.Prefix.{shared}
use Rattle.path.proofs.Growing.{in_empty}
use Rattle.path_relative.proofs.Alike.{on_alike}
use Rattle.path_relative.proofs.Exits.{joined_on}
use Rattle.path_relative_decode.proofs.sized.decode_joined.Goals.{else-canonic-via-then-canonic+else-not-share_only, else-canonic-via-else-canonic}
use Rattle.path_relative_decode.proofs.sized.decode_joined.Goals as goal

-- strictly, the reference and the path share no more
abbrev most : Bool → Path → ℕ → Path → Bool
most canonic r k p = cond canonic (eqb (shared (components_of r) (components_of p)) k) true

pub returns-in_err-n : goal.returns-in_err-n
returns-in_err-n c =
    let a = c.args in
    let e : c.from_residual.result ≡ Err c.in_err-n.field-0.0 = search rules in
    rw (e, joined_on a.canonic (path_in a.reference.now) a.k c.requires a.sizes.total a.sizes.count a.message.now) (bind_refused _ _ c.in_err-n.ensures)

pub share_only-requires : goal.share_only-requires
share_only-requires c =
    let a = c.args in
    (on_alike a.canonic (path_in a.reference.now) a.k c.requires a.sizes.total a.sizes.count).holds a.message.now _ _ (λ i. omega (arith, c.type_inv.message i)) (sym c.in_ok-n.ensures.answer)

pub returns-then-not-share_only : goal.returns-then-not-share_only
returns-then-not-share_only c =
    let a = c.args in
    let r = path_in a.reference.now in
    rw (c.clear.ensures, in_empty, joined_on a.canonic r a.k c.requires a.sizes.total a.sizes.count a.message.now)
    (test_failed (most a.canonic r a.k) _ c.in_ok-n.ensures (rw c.if-canonic.true (sym c.if-not-share_only.ensures)))

pub returns : goal.returns
returns c =
    let a = c.args in
    let r = path_in a.reference.now in
    let kept : most a.canonic r a.k (path_in c.decode_after.new.out) ≡ true = elim c.else-canonic.branch [
      | else-canonic-via-then-canonic+else-not-share_only w ↦ rw w.if-canonic.true (sym w.if-not-share_only.ensures)
      | else-canonic-via-else-canonic w ↦ rw w.if-canonic.false
    ] in
    rw (joined_on a.canonic r a.k c.requires a.sizes.total a.sizes.count a.message.now) (test_passed (most a.canonic r a.k) _ c.in_ok-n.ensures kept)
