-- The invariant: the bytes so far were digits, and v is their number.
use Rattle.std.proofs.Common.{◌≡◌, ◌<◌, ◌^◌, drop}
use Rattle.decimal.specs.Decimal.{read_decimal}
use Rattle.decimal.proofs.DecimalSteps.{read_rest}
use Rattle.decimal.proofs.read_decimal.Given as goal

abbrev pub invariant-loop-b : goal.invariant-loop-b
invariant-loop-b l = (read_rest l.value (drop l.b-index l.s) ≡ read_decimal l.s) × (l.value < 2 ^ 64)
