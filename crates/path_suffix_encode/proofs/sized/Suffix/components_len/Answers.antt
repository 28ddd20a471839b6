use Rattle.codec.proofs.Prelude.{◌≡◌, ◌∙◌, ◌+◌, ◌-◌, arith, length, drop}
use Rattle.path.specs.Record.{components_of, length_at}
use Rattle.path.specs.Flat.{path_in}
use Rattle.path.proofs.Components.{sized_formed}
use Rattle.path.proofs.Records.{lent_known}
use Rattle.path_suffix.specs.Suffix.{component_bytes}
use Rattle.path_suffix_encode.proofs.Records.{some_short, last_one_long}
use Rattle.path_suffix_encode.proofs.sized.Suffix.components_len.Goals as goal

pub returns : goal.returns
returns c =
    let path = c.args.self.path.now in
    let here = sized_formed c.args.self.leads.fits in
    let counted = c.count-n.ensures ∙ lent_known path here 0 (λ p. p.count) in
    let i : c.loop-i.i ≡ c.count-n.result - 1 = omega arith in
    let len = c.component_len.ensures ∙ lent_known path here 0 (λ p. length_at p (c.count-n.result - 1)) in
    let last = rw i at (last_one_long (path_in path) here c.loop-i.i (omega arith) (omega arith)) in
    let all : c.loop-i.t + c.component_len.result ≡ length (component_bytes (drop c.args.self.k (components_of (path_in path)))) = omega (arith, rw i at c.loop-i.invariant) in
    (all, omega (arith, all, some_short (path_in path) here c.args.self.k))
