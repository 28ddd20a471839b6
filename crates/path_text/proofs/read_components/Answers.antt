use Rattle.std.proofs.Common.{eqb, sym, rules, tests, arith}
use Rattle.std.proofs.lemmas.Iterator.Consumers.{YieldsList-turn, YieldsList-end}
use Rattle.std.proofs.lemmas.Iterator.Splits.{YieldsList-from_slice_split}
use Rattle.std.proofs.lemmas.List.{length_push}
use Rattle.text.specs.Parts.{parts}
use Rattle.path.proofs.Growing.{built_none}
use Rattle.path_text.proofs.Reading.{held_none, held_next, held_stop, held_all}
use Rattle.path_text.proofs.read_components.Goals as goal

pub loop-component-init : goal.loop-component-init
loop-component-init c = held_none c.args.s.now _ _ (built_none c.new-builder.ensures (search rules))

pub returns-in_err-builder : goal.returns-in_err-builder
unfolding parts
returns-in_err-builder c =
    let l = c.loop-component in
    let t = YieldsList-turn (YieldsList-from_slice_split _ (λ b. eqb b 47) c.args.s.now (cc) (cc) (cc) (λ y b q k. search (rules, tests)))
    l.yielded _ l.yielded_by _ _ c.in-Some.component c.in-Some.is c.next.ensures.steps in
    rw (c.from_residual.ensures) (sym (held_stop l.invariant c.in-Some.component.now t.0 t.1 c.in_err-builder.ensures))

pub loop-component-preserved : goal.loop-component-preserved
unfolding parts
loop-component-preserved c =
    let l = c.loop-component in
    let t = YieldsList-turn (YieldsList-from_slice_split _ (λ b. eqb b 47) c.args.s.now (cc) (cc) (cc) (λ y b q k. search (rules, tests)))
    l.yielded _ l.yielded_by _ _ c.in-Some.component c.in-Some.is c.next.ensures.steps in
    rw (length_push l.yielded c.in-Some.component) (held_next l.invariant c.in-Some.component.now t.0 t.1 c.in_ok-builder.builder c.push_text.new.out c.in_ok-builder.ensures)

pub returns : goal.returns
unfolding parts
returns c =
    let l = c.loop-component in
    let t = YieldsList-end (YieldsList-from_slice_split _ (λ b. eqb b 47) c.args.s.now (cc) (cc) (cc) (λ y b q k. search (rules, tests)))
    l.yielded _ l.yielded_by _ _ c.in-None.is c.next.ensures.steps in
    sym (held_all l.invariant (omega (arith, t.1)))
