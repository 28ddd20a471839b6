-- What the readers' and writers' definitions answer at each exit of the code.
use Rattle.codec.proofs.Prelude.{◌≡◌, refl, ap, ◌∙◌, sym, List, ◌++◌, Bool, true, false, cond, ◌-◌, ℕ, ◌+◌, ◌^◌, ◌≤◌, ◌<◌, arith, leb, eqb, length, take, drop, set, drop_of_length-le, length-drop, pow_mono, lt-ltb, le-ltb, le-leb, lt-leb, eq-eqb, ne_eqb, leb-true, leb-false}
use Rattle.codec.specs.Answers.{accepted, refused}
use Rattle.codec.specs.Format.{over}
use Rattle.codec.specs.Reader.{passed}
use Rattle.codec.proofs.Lending.{over-cons}
use Rattle.compact_u64.specs.BigEndian.{big_endian, value_of, read_big_endian}
use Rattle.compact_u64.specs.Number.{inline_limit, width_exponent, min_tag, encoding_width, number_bytes, number_said, standalone_bytes, read_number, read_standalone}
use Rattle.compact_u64.specs.Answers.{bits}
use Rattle.compact_u64.specs.declared.TagWidth.{TagWidth}
use Rattle.compact_u64.specs.declared.TagWidth.TheVariants as width
use Rattle.compact_u64.proofs.Standalone.{standalone_bounded}
use Rattle.compact_u64.proofs.Tags.{width_inline, width_sized, length-number_bytes}

-- a width holds the four tags after which bytes follow
two_bits : (w : TagWidth) → 2 ≤ bits w
two_bits width.Two = omega arith
two_bits width.Three = omega arith
two_bits width.Four = omega arith
two_bits width.Five = omega arith
two_bits width.Six = omega arith
two_bits width.Seven = omega arith
two_bits width.Eight = omega arith

pub four_tags : (w : TagWidth) → 2 ^ bits w ≡ inline_limit (bits w) + 4
four_tags w = omega (arith, pow_mono {i = 2} (two_bits w))

-- ---- reading n bytes as a number
pub big_wide : (n : ℕ) (s : List ℕ) → 8 < n → read_big_endian n s ≡ refused 2
unfolding read_big_endian
big_wide n s h = rw (lt-leb n 8 h)

module _ (n : ℕ) (s : List ℕ) (small : n ≤ 8) where
  pub big_short : length s < n → read_big_endian n s ≡ refused 1
  unfolding read_big_endian
  big_short h = rw (le-leb n 8 small, lt-leb n (length s) h)

  pub big_there : n ≤ length s → read_big_endian n s ≡ accepted (value_of (take n s)) n
  unfolding read_big_endian
  big_there h = rw (le-leb n 8 small, le-leb n (length s) h)

-- ---- reading after a tag
module _ (canonic : Bool) (w tag : ℕ) (s : List ℕ) where
  pub read_misfit : 2 ^ w ≤ tag → read_number canonic w tag s ≡ refused 2
  unfolding read_number
  read_misfit h = rw (le-ltb tag (2 ^ w) h)

  pub read_inline : tag < inline_limit w → read_number canonic w tag s ≡ accepted tag 0
  unfolding read_number encoding_width number_said min_tag
  read_inline h =
      let t : tag < 2 ^ w = omega arith in
      rw (lt-ltb tag (2 ^ w) t, lt-ltb tag (inline_limit w) h, le-leb 0 (length s) (omega arith), lt-ltb tag (inline_limit w) h) (go canonic)
    where
      go : (b : Bool) → passed (cond b (eqb (min_tag w tag) tag) true) (accepted tag 0) ≡ accepted tag 0
      go true = rw (lt-ltb tag (inline_limit w) h, eq-eqb tag tag refl)
      go false = refl

  module _ (h : inline_limit w ≤ tag) (t : tag < 2 ^ w) (n : ℕ) (e : n ≡ 2 ^ (tag - inline_limit w)) where
    pub read_short : length s < n → read_number canonic w tag s ≡ refused 1
    unfolding read_number encoding_width
    read_short l = rw (lt-ltb tag (2 ^ w) t, le-ltb tag (inline_limit w) h, ← e, lt-leb n (length s) l)

    -- the bytes are there: strict asks for the tag
    read_bytes : n ≤ length s → read_number canonic w tag s
        ≡ passed (cond canonic (eqb (min_tag w (value_of (take n s))) tag) true) (accepted (value_of (take n s)) n)
    unfolding read_number encoding_width number_said
    read_bytes l = rw (lt-ltb tag (2 ^ w) t, le-ltb tag (inline_limit w) h, ← e, le-leb n (length s) l, le-ltb tag (inline_limit w) h)

    -- what reading them answers
    module _ (small : n ≤ 8) where
      pub read_refused : (k : ℕ) → read_big_endian n s ≡ refused k → read_number canonic w tag s ≡ refused k
      read_refused k f = go (leb n (length s)) refl
        where
          go : (b : Bool) → leb n (length s) ≡ b → read_number canonic w tag s ≡ refused k
          go true p = let g = big_there n s small (leb-true n (length s) p) in let z : ◌≡◌ {A = ℕ} 0 1 = cc in absurd (omega arith)
          go false p = let l = leb-false n (length s) p in read_short l ∙ sym (big_short n s small l) ∙ f

      module _ (v m : ℕ) (f : read_big_endian n s ≡ accepted v m) where
        read_value : read_number canonic w tag s ≡ passed (cond canonic (eqb (min_tag w v) tag) true) (accepted v m)
        read_value = go (leb n (length s)) refl
          where
            go : (b : Bool) → leb n (length s) ≡ b → read_number canonic w tag s ≡ passed (cond canonic (eqb (min_tag w v) tag) true) (accepted v m)
            go true p =
                let g = big_there n s small (leb-true n (length s) p) in
                let same : value_of (take n s) ≡ v = cc in
                let long : n ≡ m = cc in
                rw (← same, ← long) (read_bytes (leb-true n (length s) p))
            go false p = let g = big_short n s small (leb-false n (length s) p) in let z : ◌≡◌ {A = ℕ} 0 1 = cc in absurd (omega arith)

        pub read_lenient : canonic ≡ false → read_number canonic w tag s ≡ accepted v m
        read_lenient c = read_value ∙ rw c

        pub read_strict : canonic ≡ true → min_tag w v ≡ tag → read_number canonic w tag s ≡ accepted v m
        read_strict c same = read_value ∙ rw (c, eq-eqb (min_tag w v) tag same)

        pub read_longer : canonic ≡ true → (min_tag w v ≡ tag → ⊥) → read_number canonic w tag s ≡ refused 2
        read_longer c other = read_value ∙ rw (c, ne_eqb (min_tag w v) tag other)

-- ---- reading a standalone number
pub standalone_none : (canonic : Bool) (s : List ℕ) (i : ℕ) → length s ≤ i → read_standalone canonic (drop i s) ≡ refused 1
standalone_none canonic s i h = rw (drop_of_length-le s h)

-- a standalone number that was read lies within the bytes
pub standalone_inside : (canonic : Bool) (s : List ℕ) (i v n : ℕ) → read_standalone canonic (drop i s) ≡ accepted v n → i + n ≤ length s
standalone_inside canonic s i v n e = go (leb (length s) i) refl
  where
    go : (b : Bool) → leb (length s) i ≡ b → i + n ≤ length s
    go true f = let g = standalone_none canonic s i (leb-true (length s) i f) in let z : ◌≡◌ {A = ℕ} 0 1 = cc in absurd (omega arith)
    go false f = omega (arith, leb-false (length s) i f, (standalone_bounded canonic).bound (drop i s) v n e, length-drop i s)

-- ---- written lengths
pub inline_length : (w v : ℕ) → v < inline_limit w → (0 ≡ length (number_bytes w v)) × (0 ≤ 8)
unfolding min_tag
inline_length w v h = (sym (length-number_bytes w v ∙ rw (lt-ltb v (inline_limit w) h) (width_inline w v h)), omega arith)

pub sized-length : (w v n : ℕ) → inline_limit w ≤ v → (k : ℕ) → (n ≡ 2 ^ k) × (1 ≤ n) × (n ≤ 8) → (k ≡ width_exponent v) × (k < 4) → (n ≡ length (number_bytes w v)) × (n ≤ 8)
unfolding min_tag
sized-length w v n h k f s =
    let b : inline_limit w ≤ inline_limit w + width_exponent v = omega arith in
    let d : inline_limit w + width_exponent v - inline_limit w ≡ k = omega (arith, s.0) in
    (f.0 ∙ sym (length-number_bytes w v ∙ rw (le-ltb v (inline_limit w) h) (width_sized w (inline_limit w + width_exponent v) b ∙ ap (λ (j : ℕ). 2 ^ j) d)), f.2)

-- ---- writing
pub number_bytes_lem : (w v n : ℕ) → n ≡ length (number_bytes w v) → big_endian n v ≡ number_bytes w v
unfolding number_bytes
number_bytes_lem w v n e =
    let width : encoding_width w (min_tag w v) ≡ n = sym (e ∙ length-number_bytes w v) in
    rw width

-- the tag's byte, then the bytes after it
pub standalone_put : (l : List ℕ) (v t : ℕ) → t ≡ min_tag 8 v → 1 ≤ length l
    → take 1 (set l 0 t) ++ over (number_bytes 8 v) (drop 1 (set l 0 t)) ≡ over (standalone_bytes v) l
standalone_put l v t e h = over-cons l (number_bytes 8 v) t h ∙ rw e
