use Rattle.std.proofs.Common.{◌*◌, [], ◌∷◌}
use Rattle.text.specs.Hex.{hex_text}
use Rattle.case_text.specs.Limits.{max_bytes}
use Rattle.case_text.specs.Bytes.{text_of}
use Rattle.case_text.proofs.Puts.{puts_two, text_hex_few}
use Rattle.case_text.proofs.put.tab_hex.Goals as goal

pub returns-clause-put : goal.returns-clause-put
returns-clause-put c =
    let lent = c.args.lent.now in
    puts_two (9 ∷ []) (hex_text (text_of lent)) (2 * max_bytes) (text_hex_few lent) c.requires c.put_bytes.ensures.put c.put_hex.ensures.put
