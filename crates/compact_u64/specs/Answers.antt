-- What the widths of the code stand for.
use Rattle.std.specs.Prelude.{◌≡◌, ◌≤◌, ℕ, Result, Ok, Err}
use Rattle.compact_u64.specs.declared.TagWidth.{TagWidth}
use Rattle.compact_u64.specs.declared.TagWidth.TheVariants as width
use Rattle.codec.specs.declared.Malformed.{Malformed}

-- the bits of a tag
abbrev pub bits : TagWidth → ℕ
bits width.Two = 2
bits width.Three = 3
bits width.Four = 4
bits width.Five = 5
bits width.Six = 6
bits width.Seven = 7
bits width.Eight = 8

-- the width of so many bits; none has fewer than 2 or more than 8
abbrev pub HasBits : ℕ → Result TagWidth Malformed → Type 0
HasBits n (Ok w) = bits w ≡ n
HasBits n (Err e) = (2 ≤ n) × (n ≤ 8) → ⊥
