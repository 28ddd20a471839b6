-- What is claimed of printing and reading: what was printed is read as it was.
use Rattle.std.specs.Prelude.{◌≡◌, List, ℕ, ◌≤◌, ◌<◌, ◌^◌, length}
use Rattle.codec.specs.Answers.{said, AllBytes}
use Rattle.codec.specs.Format.{over}
use Rattle.decimal.specs.Decimal.{read_decimal}
use Rattle.text.specs.Hex.{hex_text}
use Rattle.text.specs.Decimal.{decimal_text}
use Rattle.text.specs.Fields.{read_hex, hex_buffer}

pub record TextLaws : Type 0 where
  -- every number of 64 bits
  pub decimal : (n : ℕ) → n < 2 ^ 64 → read_decimal (decimal_text n) ≡ said n
  -- all bytes, in a buffer that has room for them
  pub hex : (bs buf : List ℕ) → AllBytes bs → length bs ≤ length buf
      → (read_hex (hex_text bs) (length buf) ≡ said (length bs)) × (hex_buffer (hex_text bs) buf ≡ over bs buf)
