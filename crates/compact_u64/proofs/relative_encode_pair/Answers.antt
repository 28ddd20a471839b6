use Rattle.codec.proofs.Prelude.{refl, ◌∙◌, List, ◌++◌, ℕ, ◌≤◌, arith, length}
use Rattle.codec.specs.Format.{allowed}
use Rattle.codec.proofs.Lending.{put_full, put_fits, pair_inside, pair_over}
use Rattle.compact_u64.specs.Number.{number_bytes}
use Rattle.compact_u64.specs.Answers.{bits}
use Rattle.compact_u64.proofs.relative_encode_pair.Goals as goal

pub returns-then-buffer-both : goal.returns-then-buffer-both
returns-then-buffer-both c =
    let first : List ℕ = number_bytes (bits c.args.width) c.args.value in
    let last : List ℕ = number_bytes (bits c.args.next_width) c.args.next in
    let n = c.relative_len_of_pair-both in
    put_full allowed (first ++ last) c.args.buffer.now refl n.result n.ensures.0 c.if-buffer-both.true

pub slice_bounds-put_number-count : goal.slice_bounds-put_number-count
slice_bounds-put_number-count c =
    let first : List ℕ = number_bytes (bits c.args.width) c.args.value in
    let last : List ℕ = number_bytes (bits c.args.next_width) c.args.next in
    let fits : length (first ++ last) ≤ length c.args.buffer.now = omega (arith, c.relative_len_of_pair-both.ensures.0) in
    let inside : c.put_number-n.result ≤ length c.put_number-n.new.buffer = pair_inside first last c.args.buffer.now refl fits c.put_number-n.ensures.0 c.put_number-n.auto.buffer in
    inside

pub slice_bounds-put_number-start : goal.slice_bounds-put_number-start
slice_bounds-put_number-start c =
    let first : List ℕ = number_bytes (bits c.args.width) c.args.value in
    let last : List ℕ = number_bytes (bits c.args.next_width) c.args.next in
    let fits : length (first ++ last) ≤ length c.args.buffer.now = omega (arith, c.relative_len_of_pair-both.ensures.0) in
    let inside : c.put_number-n.result ≤ length c.put_number-n.new.buffer = pair_inside first last c.args.buffer.now refl fits c.put_number-n.ensures.0 c.put_number-n.auto.buffer in
    inside

pub returns : goal.returns
returns c =
    let first : List ℕ = number_bytes (bits c.args.width) c.args.value in
    let last : List ℕ = number_bytes (bits c.args.next_width) c.args.next in
    let fits : length (first ++ last) ≤ length c.args.buffer.now = omega (arith, c.relative_len_of_pair-both.ensures.0) in
    let l = c.args.buffer.now in
    let n = c.relative_len_of_pair-both in
    let f = put_fits allowed (first ++ last) l refl n.result n.ensures.0 (omega (arith, c.if-buffer-both.false)) in (
      f.0,
      pair_over first last l refl fits c.put_number-n.ensures.0 c.put_number-n.ensures.1 c.put_number-n.auto.buffer c.put_number.ensures.1 ∙ f.1,
    )
