use Rattle.codec.proofs.Prelude.{◌≡◌, refl, length}
use Rattle.codec.proofs.Lending.{length_done}
use Rattle.path.specs.Record.{sized}
use Rattle.path.specs.Flat.{path_in}
use Rattle.path_relative.specs.Records.{shared_by}
use Rattle.path_relative.proofs.Writing.{shared_short}
use Rattle.path_relative_encode.specs.Shared.{shared_bytes}
use Rattle.path_relative_encode.proofs.Shared.{shared_allowed}
use Rattle.path_relative_encode.proofs.shared_path.SharedPath.len.Goals as goal

pub unwrap-requires : goal.unwrap-requires
unwrap-requires c =
    let s = c.args.self in
    rw (length_done (shared_by sized s.shared) (path_in s.path.now) c.shared_len.result (shared_allowed s) c.shared_len.ensures) refl

pub returns : goal.returns
unfolding shared_bytes
returns c =
    let s = c.args.self in
    let f = shared_by sized s.shared in
    let done = length_done f (path_in s.path.now) c.shared_len.result (shared_allowed s) c.shared_len.ensures in
    let n_is : c.unwrap.result ≡ length (f.encode (path_in s.path.now)) = cc in
    (n_is, rw n_is (shared_short (path_in s.path.now) s.shared (shared_allowed s)))
