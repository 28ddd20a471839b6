use Rattle.codec.proofs.Prelude.{◌≡◌, arith}
use Rattle.std.proofs.Common.{Err, rules}
use Rattle.path.proofs.Growing.{in_empty}
use Rattle.entry.specs.Record.{entry_lent}
use Rattle.entry_entry_decode.proofs.Steps.{entry_headless, head_within, entry_unpathed, path_within, entry_undigested, entry_whole}
use Rattle.entry_entry_decode.proofs.decode_tested.Goals as goal

pub returns-in_err-head : goal.returns-in_err-head
returns-in_err-head c =
    let e : c.from_residual.result ≡ Err c.in_err-head.field-0.0 = search rules in
    rw e (entry_headless (entry_lent c.args.reference) c.requires.0 c.args.message.now c.args.start _ c.requires.1 c.in_err-head.ensures)

pub overflow_add-at : goal.overflow_add-at
overflow_add-at c = omega (arith, head_within (entry_lent c.args.reference) c.requires.0 c.args.message.now c.args.start c.in_ok-head.ensures)

pub returns-in_err-b : goal.returns-in_err-b
returns-in_err-b c =
    let e : c.from_residual-in_err-b.result ≡ Err c.in_err-b.field-0.0 = search rules in
    rw e (entry_unpathed (entry_lent c.args.reference) c.requires.0 c.args.message.now c.args.start c.in_ok-head.ensures _ c.in_err-b.ensures)

pub overflow_add-at-2 : goal.overflow_add-at-2
overflow_add-at-2 c = omega (arith, path_within (entry_lent c.args.reference) c.requires.0 c.args.message.now c.args.start c.in_ok-head.ensures c.in_ok-b.ensures)

pub returns-in-Err : goal.returns-in-Err
returns-in-Err c =
    entry_undigested (entry_lent c.args.reference) c.requires.0 c.args.message.now c.args.start c.in_ok-head.ensures c.in_ok-b.ensures _ (rw c.clear.ensures in_empty) c.in-Err.ensures

pub returns : goal.returns
returns c = entry_whole (entry_lent c.args.reference) c.requires.0 c.args.message.now c.args.start c.in_ok-head.ensures c.in_ok-b.ensures c.in-Ok.ensures
