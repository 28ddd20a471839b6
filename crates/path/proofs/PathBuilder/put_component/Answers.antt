use Rattle.codec.proofs.Prelude.{◌∙◌, arith}
use Rattle.std.proofs.Common.{rules}
use Rattle.path.proofs.Growing.{recorded_one}
use Rattle.path.proofs.PathBuilder.put_component.Goals as goal

pub returns : goal.returns
returns c =
    let a = c.args in
    recorded_one _ _ _ _ a.self.total a.self.count _ _ (omega arith) (c.put_bytes.ensures.whole (search rules)).1 (omega arith) (c.copy_from_slice.ensures.after ∙ c.to_be_bytes.ensures) (omega arith)
