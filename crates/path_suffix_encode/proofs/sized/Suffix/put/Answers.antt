use Rattle.codec.proofs.Prelude.{◌∙◌, drop}
use Rattle.codec.proofs.Lending.{to_end, put_end}
use Rattle.path.specs.Record.{components_of}
use Rattle.path.specs.Flat.{path_in}
use Rattle.path_suffix.proofs.Writing.{suffix_put}
use Rattle.path_suffix_encode.proofs.sized.Suffix.put.Goals as goal

pub returns : goal.returns
returns c =
    let h = c.put_sizes-a in
    let w = c.put_components in
    let rest = rw (to_end h.result h.new.buffer) at w.ensures in
    put_end h.result h.new.buffer w.new.buffer ∙ rw (rest, h.ensures.1, h.ensures.0, c.sizes.ensures) (suffix_put c.args.buffer.now (drop c.args.self.k (components_of (path_in c.args.self.path.now))))
