use Rattle.std.proofs.Common.{◌%◌, ltb, length, rules, tests}
use Rattle.std.proofs.lemmas.Bool.{eq-eqb}
use Rattle.std.proofs.lemmas.Iterator.{YieldsList-from_slice}
use Rattle.std.proofs.lemmas.Iterator.Search.{all_from_yields_List}
use Rattle.text.specs.Hex.{is_hex, hex_value}
use Rattle.text.proofs.is_hex.Goals as goal

pub returns-then-s-eq0 : goal.returns-then-s-eq0
unfolding is_hex
returns-then-s-eq0 c =
    rw (eq-eqb (length c.args.s.now % 2) 0 c.if-s-eq0.true)
    (all_from_yields_List (λ b. ltb (hex_value b) 16) _ _ _ c.all.ensures.ran (YieldsList-from_slice c.args.s.now cc) (λ x b q k. search (rules, tests)))
