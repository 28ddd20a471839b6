use Rattle.codec.proofs.Prelude.{◌≡◌, sym, ◌∙◌, arith}
use Rattle.std.proofs.Common.{Err, rules}
use Rattle.path.specs.Flat.{path_in}
use Rattle.path.proofs.Components.{sized_formed}
use Rattle.path.proofs.Records.{lent_known}
use Rattle.path.proofs.Growing.{in_empty}
use Rattle.path_relative_decode.proofs.Steps.{by_unsized, by_number, by_first, by_sizes, by_rest, by_above, by_stopped, by_inside, by_read, by_told}
use Rattle.path_relative_decode.proofs.sized.decode_shared.Goals as goal

pub returns-then-not-sized-clause-read : goal.returns-then-not-sized-clause-read
returns-then-not-sized-clause-read c = rw (c.clear.ensures, in_empty) (by_unsized c.args.canonic (path_in c.args.reference.now) c.args.message.now c.args.start (sym c.if-not-sized.ensures))

pub returns-in_err-shared-clause-read : goal.returns-in_err-shared-clause-read
returns-in_err-shared-clause-read c =
    let e : c.from_residual.result ≡ Err c.in_err-shared.field-0.0 = search rules in
    rw (e, c.clear.ensures, in_empty) (by_number c.args.canonic (path_in c.args.reference.now) c.args.message.now c.args.start (sym c.if-not-sized.ensures) _ c.in_err-shared.ensures)

pub overflow_add-first : goal.overflow_add-first
overflow_add-first c = omega (arith, by_first c.args.canonic (path_in c.args.reference.now) c.args.message.now c.args.start (sym c.if-not-sized.ensures) _ _ c.in_ok-shared.ensures)

pub returns-in_err-sizes-clause-read : goal.returns-in_err-sizes-clause-read
returns-in_err-sizes-clause-read c =
    let e : c.from_residual-in_err-sizes.result ≡ Err c.in_err-sizes.field-0.0 = search rules in
    rw (e, c.clear.ensures, in_empty) (by_sizes c.args.canonic (path_in c.args.reference.now) c.args.message.now c.args.start (sym c.if-not-sized.ensures) _ _ c.in_ok-shared.ensures _ c.in_err-sizes.ensures)

pub returns-then-count-shared-clause-read : goal.returns-then-count-shared-clause-read
returns-then-count-shared-clause-read c =
    let counted = c.count.ensures ∙ lent_known c.args.reference.now (sized_formed (sym c.if-not-sized.ensures)) 0 (λ p. p.count) in
    rw (c.clear.ensures, in_empty) (by_above c.args.canonic (path_in c.args.reference.now) c.args.message.now c.args.start (sym c.if-not-sized.ensures) _ _ c.in_ok-shared.ensures _ _ c.in_ok-sizes.ensures (omega (arith, counted, c.if-count-shared.true)))

pub overflow_add-rest : goal.overflow_add-rest
overflow_add-rest c = omega (arith, by_rest c.args.canonic (path_in c.args.reference.now) c.args.message.now c.args.start (sym c.if-not-sized.ensures) _ _ c.in_ok-shared.ensures _ _ c.in_ok-sizes.ensures)

pub slice_bounds-rest-count : goal.slice_bounds-rest-count
slice_bounds-rest-count c = by_rest c.args.canonic (path_in c.args.reference.now) c.args.message.now c.args.start (sym c.if-not-sized.ensures) _ _ c.in_ok-shared.ensures _ _ c.in_ok-sizes.ensures

pub slice_bounds-rest-start : goal.slice_bounds-rest-start
slice_bounds-rest-start c = omega (arith, by_rest c.args.canonic (path_in c.args.reference.now) c.args.message.now c.args.start (sym c.if-not-sized.ensures) _ _ c.in_ok-shared.ensures _ _ c.in_ok-sizes.ensures)

pub returns-in_err-n-clause-read : goal.returns-in_err-n-clause-read
returns-in_err-n-clause-read c =
    let e : c.from_residual-in_err-n.result ≡ Err c.in_err-n.field-0.0 = search rules in
    rw e (by_stopped c.args.canonic (path_in c.args.reference.now) c.args.message.now c.args.start (sym c.if-not-sized.ensures) _ _ c.in_ok-shared.ensures _ _ c.in_ok-sizes.ensures _ c.in_err-n.ensures)

pub overflow_add-result : goal.overflow_add-result
overflow_add-result c = omega (arith, by_inside c.args.canonic (path_in c.args.reference.now) c.args.message.now c.args.start (sym c.if-not-sized.ensures) _ _ c.in_ok-shared.ensures _ _ c.in_ok-sizes.ensures _ c.in_ok-n.ensures)

pub overflow_add-result-2 : goal.overflow_add-result-2
overflow_add-result-2 c = omega (arith, by_inside c.args.canonic (path_in c.args.reference.now) c.args.message.now c.args.start (sym c.if-not-sized.ensures) _ _ c.in_ok-shared.ensures _ _ c.in_ok-sizes.ensures _ c.in_ok-n.ensures)

pub returns-clause-read : goal.returns-clause-read
returns-clause-read c = by_read c.args.canonic (path_in c.args.reference.now) c.args.message.now c.args.start (sym c.if-not-sized.ensures) _ _ c.in_ok-shared.ensures _ _ c.in_ok-sizes.ensures _ c.in_ok-n.ensures

pub returns-clause-told : goal.returns-clause-told
returns-clause-told c =
    let fits = sym c.if-not-sized.ensures in
    let counted = c.count.ensures ∙ lent_known c.args.reference.now (sized_formed fits) 0 (λ p. p.count) in
    by_told c.args.canonic (path_in c.args.reference.now) c.args.message.now c.args.start fits _ _ c.in_ok-shared.ensures _ _ c.in_ok-sizes.ensures _ c.in_ok-n.ensures
    (omega (arith, counted, c.if-count-shared.false)) (λ i. omega (arith, c.type_inv.message i))
