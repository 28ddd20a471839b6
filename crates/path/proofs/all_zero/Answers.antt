use Rattle.codec.proofs.Prelude.{◌≡◌, refl, eqb}
use Rattle.std.proofs.Common.{rules, subst, bit_or}
use Rattle.std.proofs.lemmas.Fn.{fold_over, slice_gives, fronts}
use Rattle.path.specs.Record.{all_at_most}
use Rattle.path.proofs.Lists.{zeros_next}
use Rattle.path.proofs.all_zero.Goals as goal

pub returns : goal.returns
returns c = subst (λ l. eqb c.fold.result 0 ≡ all_at_most 0 l) c.iter.ensures.rest
    (fold_over fronts (λ y. y.now) _ (λ ys bits. eqb bits 0 ≡ all_at_most 0 ys) _
    (λ ys a x b f' j k. let more : b ≡ bit_or a x.now = search rules in (rw more (zeros_next ys a x.now j), refl))
    _ _ _ _ (slice_gives c.iter.result) refl c.fold.ensures.ran)
