use Rattle.codec.proofs.Prelude.{[], arith}
use Rattle.path.proofs.Growing.{built_none, built_components}
use Rattle.path_suffix_decode.proofs.Within.{ready_from}
use Rattle.path_suffix_decode.proofs.decode_components.Goals as goal

pub decode_more-requires : goal.decode_more-requires
decode_more-requires c = ready_from [] (omega arith) (omega arith) (built_none c.new.ensures c.clear.ensures)

pub returns : goal.returns
returns c = rw (built_components [] (built_none c.new.ensures c.clear.ensures) (omega arith) (omega arith)) at c.decode_more.ensures
