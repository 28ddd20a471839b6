-- The invariants: the first bytes of s, i of them or k blocks, stand in the buffer, and the rest of it is as it was.
use Rattle.codec.proofs.Prelude.{◌≡◌, ◌*◌, ◌++◌, length, take, drop}
use Rattle.byte_codec.proofs.fill.Given as goal

abbrev pub invariant-loop-i : goal.invariant-loop-i
invariant-loop-i l = (length l.buffer ≡ length l.initial.buffer) × (l.buffer ≡ take l.i l.s ++ drop l.i l.initial.buffer)

abbrev pub invariant-loop-k : goal.invariant-loop-k
invariant-loop-k l = (length l.buffer ≡ length l.initial.buffer) × (l.buffer ≡ take (8 * l.k) l.s ++ drop (8 * l.k) l.initial.buffer)
