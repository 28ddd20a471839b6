-- The invariant: from the place `at` on, the n bytes are the number's lowest, as many as turns were taken, and x is what is left of the number.
use Rattle.codec.proofs.Prelude.{◌≡◌, ◌++◌, ◌+◌, ◌/◌, ◌^◌, length, drop}
use Rattle.compact_u64.specs.BigEndian.{big_endian}
use Rattle.compact_u64.proofs.fill_big_endian.Given as goal

abbrev pub invariant-loop : goal.invariant-loop
invariant-loop l = (l.at + l.counter ≡ l.n) × (length l.buffer ≡ length l.initial.buffer) × (l.x ≡ l.value / 256 ^ l.counter) × (drop l.at l.buffer ≡ big_endian l.counter l.value ++ drop l.n l.initial.buffer)
