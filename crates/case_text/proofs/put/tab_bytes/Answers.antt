use Rattle.std.proofs.Common.{[], ◌∷◌}
use Rattle.case_text.specs.Limits.{max_bytes}
use Rattle.case_text.specs.Bytes.{text_of}
use Rattle.case_text.proofs.Puts.{puts_two}
use Rattle.case_text.proofs.put.tab_bytes.Goals as goal

pub returns-clause-put : goal.returns-clause-put
returns-clause-put c =
    let text = c.args.value.now in
    puts_two (9 ∷ []) (text_of text) max_bytes text.few c.requires c.put_bytes.ensures.put c.put_bytes-2.ensures.put
