use Rattle.std.proofs.Common.{leb, ◌∙◌, rules, tests}
use Rattle.std.proofs.lemmas.Iterator.{YieldsList-from_slice}
use Rattle.std.proofs.lemmas.Iterator.Search.{all_from_yields_List}
use Rattle.case_paths.proofs.RawSteps.{at_most_list}
use Rattle.case_paths.proofs.raw.held.Goals as goal

pub returns : goal.returns
returns c =
    all_from_yields_List (λ n. leb n 65535) _ _ _ c.all.ensures.ran (YieldsList-from_slice c.args.lengths.now cc) (λ x b q k. search (rules, tests))
    ∙ at_most_list 65535 c.args.lengths.now
