use Rattle.std.proofs.Common.{◌≡◌, length, arith}
use Rattle.case_text.proofs.HexFields.{hex_taken, hex_inside}
use Rattle.case_text.proofs.fields.hex_in.Goals as goal

pub returns-clause-said : goal.returns-clause-said
returns-clause-said c =
    let read = c.read_hex.ensures in
    rw (c.ok.ensures.value, read.1, ← c.part.ensures) (hex_taken c.part.result.now c.args.buffer.now c.read_hex.result read.0)

pub returns-clause-inside : goal.returns-clause-inside
returns-clause-inside c =
    let long : length c.read_hex.new.out ≡ length c.args.buffer.now = omega arith in
    rw (c.ok.ensures.value, long) (hex_inside c.part.result.now c.args.buffer.now c.read_hex.result c.read_hex.ensures.0)
