-- docs/ABI.md, "Numbers": the width of a tag crosses as its bits, and is 5 unless it is 2 to 8.
use Rattle.std.specs.Prelude.{Bool, cond, ◌&&◌, ℕ, leb}
use Rattle.codec.specs.Answers.{Outcome, wrote, refused_writing}
use Rattle.codec.specs.Format.{Format, allowed, refused_value}
use Rattle.codec.specs.Reader.{Reader, on_formed}
use Rattle.compact_u64.specs.Number.{number_bytes, read_number}

unfoldable pub is_width : ℕ → Bool
is_width w = leb 2 w && leb w 8

abbrev pub tagged : ℕ → Format ℕ
tagged w = record { check = λ v. cond (is_width w) allowed (refused_value 5); encode = number_bytes w }

abbrev pub read_tagged : Bool → ℕ → ℕ → Reader ℕ
read_tagged canonic w tag = on_formed (is_width w) (read_number canonic w tag)

-- what stands where the tag goes
abbrev pub tag_or : Outcome → ℕ → ℕ → ℕ
tag_or (wrote n) tag lent = tag
tag_or (refused_writing k) tag lent = lent
