use Rattle.std.proofs.Common.{[], ◌≡◌, ◌∙◌, ◌-◌, refl, sym, arith, eqb, length, drop, None}
use Rattle.std.specs.List.{position}
use Rattle.codec.proofs.Lending.{to_end}
use Rattle.lines.proofs.Fitting.{fitting_short, fitting_end}
use Rattle.lines.proofs.Answering.{none_answered, one_answered, all_taken, all_long, all_put}
use Rattle.case_text.specs.Limits.{max_answer}
use Rattle.case_text.proofs.Puts.{within_puts, ends_inside}
use Rattle.lines.specs.Lines.{fitting_lines}
use Rattle.line_program.proofs.answer_lines.Goals.{else-loop-rest-test, then-loop-rest-test+in_default}
use Rattle.line_program.proofs.answer_lines.Goals as goal

pub loop-rest-init : goal.loop-rest-init
loop-rest-init g c = record { answered = rw c.new-text.ensures.start.0 (none_answered _ max_answer _ _); same = (refl, refl) }

pub loop-rest-preserved : goal.loop-rest-preserved
loop-rest-preserved g c =
    let l = c.loop-rest in
    let s = c.args.s.now in
    let found = rw (to_end l.taken s) at (sym c.in-Some.ensures) in
    let kept = c.answer.ensures.same.1 in
    let w = within_puts c.answer.ensures.put (omega arith) in
    record {
      answered = one_answered g.P.Program.answer_to max_answer s _ l.invariant.answered c.in-Some.k (omega (arith, l.invariant.answered.kept)) found
          (rw (to_end l.taken s) at w.place) (rw (to_end l.taken s) at w.buffer) kept (ends_inside w (omega arith) kept);
      same = (c.answer.ensures.same.0 ∙ l.invariant.same.0, kept ∙ l.invariant.same.1);
    }

pub returns : goal.returns
returns g c =
    let l = c.loop-rest in
    let s = c.args.s.now in
    let start = c.new-text.ensures.start.1 in
    let i = rw start at l.invariant.answered in
    let f : fitting_lines g.P.Program.answer_to max_answer (length c.args.out.now - l.text.at) (drop l.taken s) ≡ [] = elim c.loop-rest-test.branch [
      | else-loop-rest-test w ↦ fitting_short g.P.Program.answer_to max_answer (drop l.taken s) (length c.args.out.now - l.text.at) (omega (arith, i.kept, c.free.ensures, w.loop-rest-test.false))
      | then-loop-rest-test+in_default w ↦
          let none : position (λ b. eqb b 10) (drop l.taken s) ≡ None = rw (← to_end l.taken s) (sym w.find.ensures ∙ w.in_default.is) in
          fitting_end g.P.Program.answer_to max_answer (drop l.taken s) (length c.args.out.now - l.text.at) none
    ] in
    let all = all_put _ _ _ _ i f in
    record {
      taken_value = (all_taken _ _ _ _ i f, all_long _ _ _ _ i f);
      out_after = grind arith;
      taken_in_bounds = (i.inside, grind (arith, i.room));
    }
