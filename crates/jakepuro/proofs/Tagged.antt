-- Laws of numbers whose tag's width crosses as its bits.
use Rattle.std.specs.Prelude.{Result, Ok, Err}
use Rattle.codec.proofs.Prelude.{◌≡◌, List, Bool, true, false, ◌&&◌, ℕ, leb, leb-true, length, refl}
use Rattle.codec.specs.declared.EncodeError.{EncodeError}
use Rattle.codec.specs.declared.Malformed.{Malformed}
use Rattle.codec.specs.Answers.{outcome_of, refused}
use Rattle.codec.specs.Format.{allowed, refused_value, put_answer, put_buffer, WritesInto}
use Rattle.codec.proofs.Lending.{writes_into}
use Rattle.compact_u64.specs.declared.TagWidth.{TagWidth}
use Rattle.compact_u64.specs.declared.TagWidth.TheVariants as width
use Rattle.compact_u64.specs.Answers.{bits, HasBits}
use Rattle.compact_u64.specs.Number.{number_bytes, read_number}
use Rattle.jakepuro.specs.Tagged.{is_width, tagged, read_tagged}

-- ---- the widths of the code, and the numbers that are none
pub no_bits : (w : ℕ) (e : Malformed) → HasBits w (Err e) → is_width w ≡ false
unfolding is_width
no_bits w e none = go (leb 2 w) refl (leb w 8) refl
  where
    go : (a : Bool) → leb 2 w ≡ a → (b : Bool) → leb w 8 ≡ b → (a && b) ≡ false
    go false p b q = refl
    go true p false q = refl
    go true p true q = absurd (none (leb-true 2 w p, leb-true w 8 q))

is_bits : (t : TagWidth) → is_width (bits t) ≡ true
unfolding is_width
is_bits width.Two = refl
is_bits width.Three = refl
is_bits width.Four = refl
is_bits width.Five = refl
is_bits width.Six = refl
is_bits width.Seven = refl
is_bits width.Eight = refl

pub has_bits : (w : ℕ) (t : TagWidth) → HasBits w (Ok t) → is_width w ≡ true
has_bits w t e = rw (← e) (is_bits t)

-- ---- writing
module _ (w v : ℕ) where
  pub tagged_refused_value : is_width w ≡ false → (tagged w).check v ≡ refused_value 5
  tagged_refused_value e = rw e

  module _ (t : TagWidth) (h : HasBits w (Ok t)) where
    pub tagged_allowed : (tagged w).check v ≡ allowed
    tagged_allowed = rw (has_bits w t h)

    pub tagged_writes : (x : Result ℕ EncodeError) (lent left : List ℕ)
        → (outcome_of x ≡ put_answer allowed (number_bytes (bits t) v) (length lent)) × (left ≡ put_buffer allowed (number_bytes (bits t) v) lent)
        → WritesInto (tagged w) v x lent left
    tagged_writes x lent left e = writes_into (rw (tagged_allowed, ← h) e)

-- ---- reading
module _ (canonic : Bool) (w tag : ℕ) (s : List ℕ) where
  pub tagged_refused : is_width w ≡ false → read_tagged canonic w tag s ≡ refused 5
  tagged_refused e = rw e

  pub tagged_reads : (t : TagWidth) → HasBits w (Ok t) → read_number canonic (bits t) tag s ≡ read_tagged canonic w tag s
  tagged_reads t h = rw (has_bits w t h, h)
