-- A number as bytes, the highest first.
use Rattle.std.specs.Prelude.{List, [], ◌∷◌, ℕ, zero, suc, ◌+◌, ◌*◌, ◌/◌, ◌%◌, ◌^◌, leb, length}
use Rattle.codec.specs.Reader.{Reader, some_bytes, guard, mapped}

-- the lowest n bytes of a number
abbrev pub big_endian : ℕ → ℕ → List ℕ
big_endian zero v = []
big_endian (suc n) v = v / 256 ^ n % 256 ∷ big_endian n v

-- the number that bytes make
abbrev pub value_of : List ℕ → ℕ
value_of [] = 0
value_of (b ∷ s) = b * 256 ^ length s + value_of s

-- reading it: 2 if n bytes may make more than a u64
unfoldable pub read_big_endian : ℕ → Reader ℕ
read_big_endian n = guard (leb n 8) (mapped value_of (some_bytes n))
