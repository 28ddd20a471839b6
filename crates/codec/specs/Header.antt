-- docs/FORMAT.md, "Headers": a header byte by the places of its parts: bit 0 is the highest.
use Rattle.std.specs.Prelude.{◌≡◌, Bool, true, false, cond, ℕ, zero, suc, ◌-◌, ◌*◌, ◌/◌, ◌%◌, ◌^◌, ◌<◌, eqb}
use Rattle.codec.specs.Reader.{Reader, mapped, one_byte}

-- the number in `wide` bits from place `at` on
abbrev pub bits_at : ℕ → ℕ → ℕ → ℕ
bits_at at wide b = b / 2 ^ (8 - at - wide) % 2 ^ wide

-- the flag at a place
abbrev pub flag : ℕ → ℕ → Bool
flag at b = eqb (bits_at at 1 b) 1

-- what a number adds to the byte whose bits from place `at` on hold it
abbrev pub placed : ℕ → ℕ → ℕ → ℕ
placed at wide v = v * 2 ^ (8 - at - wide)

abbrev pub bit : Bool → ℕ
bit b = cond b 1 0

-- a header that takes every bit of its byte: packing and taking apart undo each other
pub record Layout {H : Type 0} (Fits : H → Type 0) (unpack : ℕ → H) (pack : H → ℕ) : Type 0 where
  pub fits : (b : ℕ) → b < 256 → Fits (unpack b)
  pub packs : (b : ℕ) → b < 256 → pack (unpack b) ≡ b
  pub byte : (h : H) → Fits h → pack h < 256
  pub unpacks : (h : H) → Fits h → unpack (pack h) ≡ h

-- reading a header, and the bytes that stand for one
abbrev pub read_header : {H : Type 0} → (ℕ → H) → Reader H
read_header unpack = mapped unpack one_byte

-- a test of every number below n: a law about every byte is computed by it
abbrev pub every : ℕ → (ℕ → Bool) → Bool
every zero t = true
every (suc n) t = cond (t n) (every n t) false
