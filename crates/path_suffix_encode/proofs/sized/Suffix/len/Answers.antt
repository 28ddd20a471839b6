use Rattle.codec.proofs.Prelude.{◌≡◌, ◌+◌, ap, ◌∙◌, sym, arith, length, length-append, drop}
use Rattle.compact_u64.specs.Number.{number_bytes}
use Rattle.path.specs.Record.{components_of}
use Rattle.path.specs.Flat.{path_in}
use Rattle.path.proofs.Components.{sized_formed}
use Rattle.path_suffix.specs.declared.Sizes.{Sizes}
use Rattle.path_suffix.specs.Header.{total_width, count_width}
use Rattle.path_suffix.specs.Suffix.{sizes_bytes, suffix_bytes}
use Rattle.path_suffix.proofs.Writing.{sizes_long, suffix_parts}
use Rattle.path_suffix_encode.proofs.Records.{all_short_lem}
use Rattle.path_suffix_encode.proofs.sized.Suffix.len.Goals as goal

pub returns : goal.returns
returns c =
    let p = path_in c.args.self.path.now in
    let cs = drop c.args.self.k (components_of p) in
    let s = c.sizes-total.result in
    let numbers = c.relative_len_of_pair.ensures.0 ∙ length-append (number_bytes total_width s.total) (number_bytes count_width s.count) in
    let sizes = sym (sizes_long s) ∙ ap (λ (h : Sizes). length (sizes_bytes h)) c.sizes-total.ensures in
    let all : 1 + c.relative_len_of_pair.result + c.components_len.result ≡ length (suffix_bytes cs) = omega (arith, sizes, numbers, suffix_parts cs, c.components_len.ensures.0) in
    (all, omega (arith, all, all_short_lem p (sized_formed c.args.self.leads.fits) c.args.self.k))
