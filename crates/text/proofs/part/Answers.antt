use Rattle.std.proofs.Common.{◌≡◌, ◌∙◌, ap, refl, eqb, ℕ, List, [], Bor, Option, Some, None, rules, tests}
use Rattle.std.specs.Option.{option_map, unwrap_or}
use Rattle.std.proofs.lemmas.Iterator.Consumers.{nth_from_yields_List}
use Rattle.std.proofs.lemmas.Iterator.Splits.{YieldsList-from_slice_split}
use Rattle.std.proofs.lemmas.Option.{unwrap_or-slice_get}
use Rattle.text.specs.Parts.{parts, part_at}
use Rattle.text.proofs.part.Goals as goal

-- a piece or none, read
now-unwrap_or : (r : Option (Bor (List ℕ))) (d : Bor (List ℕ)) → (unwrap_or r d).now ≡ unwrap_or (option_map (λ x. x.now) r) d.now
now-unwrap_or None d = refl
now-unwrap_or (Some x) d = refl

pub returns : goal.returns
unfolding parts part_at
returns c =
    let s = c.split.ensures in
    let piece = nth_from_yields_List c.nth.result _ c.args.i c.nth.ensures.ran
    (YieldsList-from_slice_split _ (λ b. eqb b c.args.x) c.args.s.now s.rest s.done s.closure (λ y b q k. search (rules, tests))) in
    ap (λ (x : Bor (List ℕ)). x.now) c.unwrap_or.ensures ∙ now-unwrap_or c.nth.result _ ∙ rw piece (unwrap_or-slice_get (parts c.args.x c.args.s.now) c.args.i [])
