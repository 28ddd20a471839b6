use Rattle.std.proofs.Common.{◌≡◌, ◌∙◌, ◌-◌, sym, arith, take, drop}
use Rattle.path.specs.Record.{components_of}
use Rattle.path.specs.Flat.{path_in}
use Rattle.path_text.specs.PathText.{tail_text, path_text_of}
use Rattle.path_text.proofs.Printing.{part_text, some_path}
use Rattle.path_text.proofs.put_path.Goals as goal

pub returns-else-n-eq0-clause-put : goal.returns-else-n-eq0-clause-put
returns-else-n-eq0-clause-put c =
    let p = path_in c.args.path.now in
    let f = c.fill.ensures.put in
    let text = c.fill.new.text in
    let e = some_path p (sym c.well_formed-2.ensures ∙ c.if-not-well_formed.false) (omega (arith, f.0)) in
    let rest : take (text.at - 1) (drop 1 text.out.now) ≡ path_text_of p = rw (f.1, f.0, part_text (tail_text (components_of p)) _) (sym e) in
    grind arith
