use Rattle.path.proofs.Growing.{flat_empty}
use Rattle.path.proofs.Path.new_empty.Goals as goal

pub returns : goal.returns
returns c = flat_empty
