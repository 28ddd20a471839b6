use Rattle.codec.proofs.Prelude.{◌∙◌}
use Rattle.codec.proofs.Lending.{put_done, put_over}
use Rattle.path_relative_encode.specs.Shared.{shared_bytes}
use Rattle.path_relative_encode.proofs.Shared.{shared_allowed}
use Rattle.path_relative_encode.proofs.shared_path.SharedPath.encode.Goals as goal

pub returns : goal.returns
unfolding shared_bytes
returns c =
    let ok = shared_allowed c.args.self in
    let answer = rw ok at c.encode_shared.ensures.answer in
    let bytes = rw ok at c.encode_shared.ensures.buffer in
    record { fits = λ room. (put_done _ _ c.encode_shared.result room answer, bytes ∙ put_over _ c.args.buffer.now room); writes = (answer, bytes) }
