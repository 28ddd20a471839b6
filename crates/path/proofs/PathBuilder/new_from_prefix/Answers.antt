use Rattle.codec.proofs.Prelude.{◌≤◌, sym, ◌∙◌, arith, le-leb}
use Rattle.path.specs.Flat.{path_in}
use Rattle.path.proofs.Components.{sized_formed}
use Rattle.path.proofs.Records.{lent_known, span_start}
use Rattle.path.proofs.Growing.{prefix_built}
use Rattle.path.proofs.PathBuilder.new_from_prefix.Goals as goal

pub returns : goal.returns
returns c =
    let path = c.args.path.now in
    let here = sized_formed (sym c.if-not-sized.ensures) in
    let there : c.args.k ≤ (path_in path).count = omega (arith, c.if-count-k.false, c.count.ensures ∙ lent_known path here 0 (λ p. p.count)) in
    record {
      answer = rw (← c.if-not-sized.ensures, le-leb c.args.k (path_in path).count there);
      is = prefix_built path here c.args.k there (c.span-total.ensures ∙ span_start path here c.args.k there) c.clear.ensures c.put_prefix.ensures;
      same = tt;
    }
