use Rattle.lines.proofs.Keeping.{kept_after_lem}
use Rattle.line_program.proofs.turns.Held.settle.Goals as goal

pub returns : goal.returns
returns g c =
    let drained = c.in_ok-at.ensures in
    let e = kept_after_lem g.P.Program.LIMIT c.in_ok-at.at c.args.end c.args.self.buf.now drained.0 drained.1 c.requires.0 in
    let kept = rw (c.LIMIT.ensures) at c.keep-have.ensures in
    record {
      have_value = (rw (← e) kept.0, rw (← e) kept.1);
      have_bound = kept.2;
    }
