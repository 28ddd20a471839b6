use Rattle.codec.proofs.Prelude.{◌∙◌}
use Rattle.codec.proofs.Lending.{put_done, put_over}
use Rattle.entry_numbers.proofs.relative_encode.Goals as goal

pub returns-clause-fits : goal.returns-clause-fits
returns-clause-fits c =
    let d = c.abs_diff-difference.ensures in
    let w = c.relative_encode_pair in
    λ room. (put_done _ _ w.result room (rw d at w.ensures.0), rw d at w.ensures.1 ∙ put_over _ c.args.buffer.now room)
