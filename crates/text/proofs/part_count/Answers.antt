use Rattle.std.proofs.Common.{eqb, rules, tests}
use Rattle.std.proofs.lemmas.Iterator.Consumers.{count_from_yields_List}
use Rattle.std.proofs.lemmas.Iterator.Splits.{YieldsList-from_slice_split}
use Rattle.text.specs.Parts.{parts}
use Rattle.text.proofs.part_count.Goals as goal

pub returns : goal.returns
unfolding parts
returns c =
    let s = c.split.ensures in
    count_from_yields_List c.split.result _ c.count.ensures.ran (YieldsList-from_slice_split _ (λ b. eqb b c.args.x) c.args.s.now s.rest s.done s.closure (λ y b q k. search (rules, tests)))
