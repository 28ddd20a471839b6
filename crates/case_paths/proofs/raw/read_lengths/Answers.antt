use Rattle.std.proofs.Common.{◌≡◌, refl, ◌∙◌, ◌≤◌, List, ℕ, Bool, true, false, cond, Option, None, eqb, length, sym, rules, tests, arith}
use Rattle.path.specs.Limits.{max_component_count}
use Rattle.std.proofs.lemmas.Bool.{eq-eqb}
use Rattle.std.proofs.lemmas.Iterator.Consumers.{YieldsList-turn, YieldsList-end, YieldsList-from_enumerate}
use Rattle.std.proofs.lemmas.Iterator.Splits.{YieldsList-from_slice_split}
use Rattle.std.proofs.lemmas.List.{length_push}
use Rattle.std.proofs.lemmas.List.FromFn.{length-enumerate_from}
use Rattle.text.specs.Parts.{parts}
use Rattle.case_paths.proofs.RawSteps.{enumerated, lengths_none, lengths_refused, lengths_next, lengths_all}
use Rattle.case_paths.proofs.raw.read_lengths.Goals as goal

pub loop-i-init : goal.loop-i-init
loop-i-init c = lengths_none c.args.field.now _ (sym c.part_count.ensures ∙ c.if-part_count-ne-MAX_COMPONENT_COUNT.false) (search rules)

same : (b : Bool) → ◌≡◌ {A = Option (List ℕ)} None (cond b None None)
same true = refl
same false = refl

pub returns-in_err-lengths : goal.returns-in_err-lengths
unfolding parts
returns-in_err-lengths c =
    let l = c.loop-i in
    let t = YieldsList-turn (YieldsList-from_enumerate (YieldsList-from_slice_split _ (λ b. eqb b 44) c.args.field.now (cc) (cc) (cc) (λ y b q k. search (rules, tests))) (cc))
    l.yielded _ l.yielded_by _ _ (c.in-Some.i, c.in-Some.number) c.in-Some.is c.next.ensures.steps in
    let e = enumerated _ _ c.in-Some.i c.in-Some.number.now t.0 t.1 in
    let none = lengths_refused l.invariant c.in-Some.number.now e.1 e.2 c.in_err-lengths.ensures in
    rw (c.from_residual.ensures, none) (same (eqb (length (parts 44 c.args.field.now)) max_component_count))

pub bounds-lengths-i : goal.bounds-lengths-i
unfolding parts
bounds-lengths-i c =
    let l = c.loop-i in
    let t = YieldsList-turn (YieldsList-from_enumerate (YieldsList-from_slice_split _ (λ b. eqb b 44) c.args.field.now (cc) (cc) (cc) (λ y b q k. search (rules, tests))) (cc))
    l.yielded _ l.yielded_by _ _ (c.in-Some.i, c.in-Some.number) c.in-Some.is c.next.ensures.steps in
    let e = enumerated _ _ c.in-Some.i c.in-Some.number.now t.0 t.1 in
    omega (arith, e.0, e.1, l.invariant.counted)

pub offset_bounds-lengths-i : goal.offset_bounds-lengths-i
offset_bounds-lengths-i c = let few = bounds-lengths-i c in omega (arith, few)

pub loop-i-preserved : goal.loop-i-preserved
unfolding parts
loop-i-preserved c =
    let l = c.loop-i in
    let t = YieldsList-turn (YieldsList-from_enumerate (YieldsList-from_slice_split _ (λ b. eqb b 44) c.args.field.now (cc) (cc) (cc) (λ y b q k. search (rules, tests))) (cc))
    l.yielded _ l.yielded_by _ _ (c.in-Some.i, c.in-Some.number) c.in-Some.is c.next.ensures.steps in
    let e = enumerated _ _ c.in-Some.i c.in-Some.number.now t.0 t.1 in
    rw (length_push l.yielded (c.in-Some.i, c.in-Some.number), e.0) (lengths_next l.invariant c.in-Some.number.now e.1 e.2 c.in_ok-lengths.field-0 c.in_ok-lengths.ensures)

pub returns : goal.returns
unfolding parts
returns c =
    let l = c.loop-i in
    let t = YieldsList-end (YieldsList-from_enumerate (YieldsList-from_slice_split _ (λ b. eqb b 44) c.args.field.now (cc) (cc) (cc) (λ y b q k. search (rules, tests))) (cc))
    l.yielded _ l.yielded_by _ _ c.in-None.is c.next.ensures.steps in
    let n : length (parts 44 c.args.field.now) ≤ length l.yielded = omega (arith, t.1, length-enumerate_from 0 (parts 44 c.args.field.now)) in
    sym (rw (eq-eqb _ _ l.invariant.counted) (lengths_all l.invariant (omega (arith, n, l.invariant.counted))))
