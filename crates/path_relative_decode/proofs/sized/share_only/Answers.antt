use Rattle.codec.proofs.Prelude.{sym, ◌∙◌, [], arith}
use Rattle.path.specs.Record.{length_at}
use Rattle.path.proofs.Components.{sized_formed}
use Rattle.path.proofs.Records.{lent_known, span_start}
use Rattle.path_relative.proofs.Alike.{next_decides}
use Rattle.path_relative_decode.proofs.sized.share_only.Goals as goal

pub returns : goal.returns
returns c =
    let path = c.args.path.now in
    let other = c.args.other.now in
    let left = sized_formed c.requires.left.fits in
    let right = sized_formed c.requires.right.fits in
    let in_left = c.count.ensures ∙ lent_known path left 0 (λ p. p.count) in
    let in_right = c.count-else-count-k.ensures ∙ lent_known other right 0 (λ p. p.count) in
    let begins = c.span-at.ensures ∙ span_start path left c.args.k c.requires.left.there in
    let left_long = c.component_len-len.ensures ∙ lent_known path left 0 (λ p. length_at p c.args.k) in
    let right_long = c.component_len.ensures ∙ lent_known other right 0 (λ p. length_at p c.args.k) in
    let left_bytes = c.bytes.ensures ∙ lent_known path left [] (λ p. p.bytes) in
    let right_bytes = c.bytes-2.ensures ∙ lent_known other right [] (λ p. p.bytes) in
    rw (left_bytes, right_bytes) at c.ne.ensures
    ∙ sym (next_decides c.requires (omega (arith, in_left)) (omega (arith, in_right)) _ _ begins left_long (c.if-len-component_len.false ∙ right_long))
