-- The invariant: the value is the number that the bytes so far make.
use Rattle.codec.proofs.Prelude.{◌≡◌, ◌*◌, ◌^◌, ◌<◌, take}
use Rattle.compact_u64.specs.BigEndian.{value_of}
use Rattle.compact_u64.proofs.decode_big_endian.Given as goal

abbrev pub invariant-loop-byte : goal.invariant-loop-byte
invariant-loop-byte l = (l.value < 2 ^ (8 * l.byte-index)) × (l.value ≡ value_of (take l.byte-index l.byte-items))
