use Rattle.std.proofs.Common.{◌≡◌, ◌*◌, ◌+◌, ◌-◌, ◌∙◌, refl, arith, get_or}
use Rattle.path.proofs.Puts.{puts_as}
use Rattle.path.proofs.Shorts.{shorts_next}
use Rattle.case_paths.proofs.RawSteps.{puts_mid, two, at_most_at}
use Rattle.case_paths.proofs.raw.put_lengths.Goals as goal

pub overflow_cast-n : goal.overflow_cast-n
overflow_cast-n c = let small = at_most_at 65535 c.args.lengths.now c.loop-i.i c.requires.1 in omega (arith, small)

pub loop-i-preserved : goal.loop-i-preserved
loop-i-preserved c =
    let l = c.loop-i in
    let ls = c.args.lengths.now in
    let put = c.copy_from_slice.ensures.after ∙ c.to_be_bytes.ensures ∙ two (get_or ls l.i 0) in
    let at : 2 * (l.i + 1) ≡ 2 * l.i + 2 = omega arith in
    let wide : 2 * l.i + 2 - 2 * l.i ≡ 2 = omega arith in
    rw (at, wide, put) (puts_as (puts_mid l.invariant 2 _ refl) (shorts_next ls l.i (omega arith)))
