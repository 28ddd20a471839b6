-- What is written of a path of which it is known how many components are shared.
use Rattle.std.specs.Prelude.{List, ℕ}
use Rattle.path.specs.Record.{sized}
use Rattle.path.specs.Flat.{path_in}
use Rattle.path_relative.specs.Records.{shared_by}
use Rattle.path_relative_encode.specs.declared.shared_path.SharedPath.{SharedPath}

unfoldable pub shared_bytes : SharedPath → List ℕ
shared_bytes s = (shared_by sized s.shared).encode (path_in s.path.now)
