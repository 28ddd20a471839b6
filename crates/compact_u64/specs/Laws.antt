-- What is claimed of compact numbers, for every width of the tag.
use Rattle.std.specs.Prelude.{◌≡◌, List, ◌++◌, Bool, true, false, ℕ, ◌≤◌, ◌<◌, ◌^◌, length, take}
use Rattle.codec.specs.Answers.{accepted, refused, AllBytes}
use Rattle.compact_u64.specs.BigEndian.{big_endian}
use Rattle.compact_u64.specs.Number.{inline_limit, min_tag, encoding_width, number_bytes, read_number, U64}

-- a tag that can carry the value: the value itself, or so many bytes that they hold it
pub data Carries (w tag v : ℕ) : Type 0 where
  inline : tag < inline_limit w → v ≡ tag → Carries w tag v
  sized : inline_limit w ≤ tag → v < 256 ^ encoding_width w tag → Carries w tag v

-- the bytes e after the tag are a form of v, perhaps a longer one than writing gives
pub record NumberForm (w tag v : ℕ) (e : List ℕ) : Type 0 where
  pub fits : tag < 2 ^ w
  pub carries : Carries w tag v
  pub bytes : e ≡ big_endian (encoding_width w tag) v

-- they are the form that writing gives
pub record NumberAs (w tag v : ℕ) (e : List ℕ) : Type 0 where
  pub small : U64 v
  pub tagged : min_tag w v ≡ tag
  pub bytes : e ≡ number_bytes w v

pub record NumberLaws (w : ℕ) : Type 0 where
  -- what is written: a tag that fits its bits, and bytes, at most 8
  pub tag : (v : ℕ) → U64 v → min_tag w v < 2 ^ w
  pub bytes : (v : ℕ) → AllBytes (number_bytes w v)
  pub short : (v : ℕ) → length (number_bytes w v) ≤ 8
  -- in either mode it reads back, whatever follows, and cut short it is 1
  pub back : (canonic : Bool) (v : ℕ) → U64 v → (t : List ℕ) → read_number canonic w (min_tag w v) (number_bytes w v ++ t) ≡ accepted v (length (number_bytes w v))
  pub cut : (canonic : Bool) (v : ℕ) → U64 v → (k : ℕ) → k < length (number_bytes w v) → read_number canonic w (min_tag w v) (take k (number_bytes w v)) ≡ refused 1
  -- strict reading accepts only what writing gives
  pub shortest : (tag : ℕ) (s : List ℕ) (v n : ℕ) → AllBytes s → read_number true w tag s ≡ accepted v n → NumberAs w tag v (take n s)
  -- lenient reading accepts every form that holds the value, whatever follows, and nothing else; cut short each is 1
  pub forms : (tag v : ℕ) → tag < 2 ^ w → Carries w tag v → (t : List ℕ) → read_number false w tag (big_endian (encoding_width w tag) v ++ t) ≡ accepted v (encoding_width w tag)
  pub form : (tag : ℕ) (s : List ℕ) (v n : ℕ) → AllBytes s → read_number false w tag s ≡ accepted v n → NumberForm w tag v (take n s)
  pub form_cut : (tag v : ℕ) → tag < 2 ^ w → Carries w tag v → (k : ℕ) → k < encoding_width w tag → read_number false w tag (take k (big_endian (encoding_width w tag) v)) ≡ refused 1
  -- nothing shorter than what writing gives reads as the value
  pub least : (canonic : Bool) (tag : ℕ) (s : List ℕ) (v n : ℕ) → AllBytes s → read_number canonic w tag s ≡ accepted v n → length (number_bytes w v) ≤ n
