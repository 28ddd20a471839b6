-- Compact numbers: docs/FORMAT.md, "Compact numbers". The width w of the tag is a parameter throughout.
use Rattle.std.specs.Prelude.{List, ◌∷◌, Bool, true, cond, ◌-◌, ℕ, ◌+◌, ◌^◌, ◌<◌, ltb, eqb}
use Rattle.codec.specs.Format.{Format, allowed}
use Rattle.codec.specs.Reader.{Reader, one_byte, some_bytes, and_then, guard, checked, mapped}
use Rattle.compact_u64.specs.BigEndian.{big_endian, value_of}

-- a value below this is its own tag; the four tags from it on say 1, 2, 4 and 8 bytes
abbrev pub inline_limit : ℕ → ℕ
inline_limit w = 2 ^ w - 4

-- 0, 1, 2 or 3, where 1, 2, 4 or 8 bytes are the fewest that hold the value
abbrev pub width_exponent : ℕ → ℕ
width_exponent v = cond (ltb v 256) 0 (cond (ltb v 65536) 1 (cond (ltb v 4294967296) 2 3))

-- the tag that writing gives a value
unfoldable pub min_tag : ℕ → ℕ → ℕ
min_tag w v = cond (ltb v (inline_limit w)) v (inline_limit w + width_exponent v)

-- how many bytes follow a tag
unfoldable pub encoding_width : ℕ → ℕ → ℕ
encoding_width w tag = cond (ltb tag (inline_limit w)) 0 (2 ^ (tag - inline_limit w))

-- the bytes that writing puts after the tag
unfoldable pub number_bytes : ℕ → ℕ → List ℕ
number_bytes w v = big_endian (encoding_width w (min_tag w v)) v

-- what a tag and the bytes after it say
unfoldable pub number_said : ℕ → ℕ → List ℕ → ℕ
number_said w tag s = cond (ltb tag (inline_limit w)) tag (value_of s)

-- reading the bytes after a tag: 2 if the tag does not fit its w bits, then 1 if they are not all there, then, strictly, 2 if writing
-- gives the value another tag
unfoldable pub read_number : Bool → ℕ → ℕ → Reader ℕ
read_number canonic w tag =
    guard (ltb tag (2 ^ w)) (
    checked (λ v. cond canonic (eqb (min_tag w v) tag) true) (
    mapped (number_said w tag) (
    some_bytes (encoding_width w tag))))

-- ---- a standalone number: a tag of 8 bits in a byte of its own

abbrev pub standalone_bytes : ℕ → List ℕ
standalone_bytes v = min_tag 8 v ∷ number_bytes 8 v

abbrev pub read_standalone : Bool → Reader ℕ
read_standalone canonic = and_then one_byte (λ tag. read_number canonic 8 tag)

-- the values of a u64
abbrev pub U64 : ℕ → Type 0
U64 v = v < 2 ^ 64

abbrev pub standalone : Format ℕ
standalone = record { check = λ v. allowed; encode = standalone_bytes }
