use Rattle.std.proofs.Common.{◌∙◌, sym}
use Rattle.case_paths.proofs.RawSteps.{bytes_read}
use Rattle.case_paths.proofs.raw.read_bytes.Goals as goal

pub returns : goal.returns
returns c = bytes_read c.args.field.now c.read_hex.result _ (sym c.ok.ensures.value ∙ c.in_ok-ok.was) c.read_hex.ensures.0 c.read_hex.ensures.1
