-- Laws of tags, for every width w.
use Rattle.codec.proofs.Prelude.{◌≡◌, refl, sym, ap, ◌∙◌, Bool, true, false, cond, ◌-◌, ℕ, zero, suc, ◌+◌, ◌*◌, ◌%◌, ◌^◌, ◌≤◌, ◌<◌, arith, ltb, pow_mono, length, ltb-true, ltb-false, lt-ltb, le-ltb}
use Rattle.codec.specs.Answers.{AllBytes}
use Rattle.compact_u64.specs.Number.{inline_limit, width_exponent, min_tag, encoding_width, number_bytes, U64}
use Rattle.compact_u64.specs.Laws.{Carries, inline, sized}
use Rattle.compact_u64.proofs.BigEndian.{length-big_endian, AllBytes-big_endian}

-- ---- the exponent of a value's width: enough, and no more than enough
pub exponent_small : (v : ℕ) → width_exponent v ≤ 3
exponent_small v = go (ltb v 256) (ltb v 65536) (ltb v 4294967296)
  where
    go : (a b c : Bool) → cond a 0 (cond b 1 (cond c 2 3)) ≤ 3
    go true b c = omega arith
    go false true c = omega arith
    go false false true = omega arith
    go false false false = omega arith

pub exponent_holds : (v : ℕ) → U64 v → v < 256 ^ (2 ^ width_exponent v)
exponent_holds v h = go (ltb v 256) (ltb v 65536) (ltb v 4294967296) refl refl refl
  where
    go : (a b c : Bool) → ltb v 256 ≡ a → ltb v 65536 ≡ b → ltb v 4294967296 ≡ c → v < 256 ^ (2 ^ cond a 0 (cond b 1 (cond c 2 3)))
    go true b c p q r = omega (arith, ltb-true v 256 p)
    go false true c p q r = omega (arith, ltb-true v 65536 q)
    go false false true p q r = omega (arith, ltb-true v 4294967296 r)
    go false false false p q r = omega arith

pub exponent_least : (v j : ℕ) → v < 256 ^ (2 ^ j) → width_exponent v ≤ j
exponent_least v zero h = rw (lt-ltb v 256 (omega arith)) (omega arith)
exponent_least v (suc zero) h = go (ltb v 256)
  where
    go : (a : Bool) → cond a 0 (cond (ltb v 65536) 1 (cond (ltb v 4294967296) 2 3)) ≤ 1
    go true = omega arith
    go false = rw (lt-ltb v 65536 (omega arith)) (omega arith)
exponent_least v (suc (suc zero)) h = go (ltb v 256) (ltb v 65536)
  where
    go : (a b : Bool) → cond a 0 (cond b 1 (cond (ltb v 4294967296) 2 3)) ≤ 2
    go true b = omega arith
    go false true = omega arith
    go false false = rw (lt-ltb v 4294967296 (omega arith)) (omega arith)
exponent_least v (suc (suc (suc j))) h = omega (arith, exponent_small v)

-- ---- what follows a tag
pub width_inline : (w tag : ℕ) → tag < inline_limit w → encoding_width w tag ≡ 0
unfolding encoding_width
width_inline w tag h = rw (lt-ltb tag (inline_limit w) h)

pub width_sized : (w tag : ℕ) → inline_limit w ≤ tag → encoding_width w tag ≡ 2 ^ (tag - inline_limit w)
unfolding encoding_width
width_sized w tag h = rw (le-ltb tag (inline_limit w) h)

pub two_to_small : (j : ℕ) → j ≤ 3 → (2 ^ j ≤ 8) × (256 ^ (2 ^ j) ≤ 2 ^ 64)
two_to_small zero h = (omega arith, omega arith)
two_to_small (suc zero) h = (omega arith, omega arith)
two_to_small (suc (suc zero)) h = (omega arith, omega arith)
two_to_small (suc (suc (suc zero))) h = (omega arith, omega arith)
two_to_small (suc (suc (suc (suc j)))) h = absurd (omega arith)

-- ---- the tag that writing gives: the value itself, or the width's
data MinTag (w v tag : ℕ) : Type 0 where
  itself : v < inline_limit w → tag ≡ v → MinTag w v tag
  wide : inline_limit w ≤ v → tag ≡ inline_limit w + width_exponent v → MinTag w v tag

min_tag_lem : (w v : ℕ) → MinTag w v (min_tag w v)
unfolding min_tag
min_tag_lem w v = go (ltb v (inline_limit w)) refl
  where
    go : (b : Bool) → ltb v (inline_limit w) ≡ b → MinTag w v (cond b v (inline_limit w + width_exponent v))
    go true p = itself (ltb-true v (inline_limit w) p) refl
    go false p = wide (ltb-false v (inline_limit w) p) refl

pub min_tag_fits : (w v : ℕ) → 2 ≤ w → min_tag w v < 2 ^ w
min_tag_fits w v w2 = go (min_tag w v) (min_tag_lem w v)
  where
    go : (tag : ℕ) → MinTag w v tag → tag < 2 ^ w
    go tag (itself l e) = omega (arith, pow_mono w2)
    go tag (wide l e) = omega (arith, pow_mono w2, exponent_small v)

pub min_tag_carries : (w v : ℕ) → U64 v → Carries w (min_tag w v) v
min_tag_carries w v h = go (min_tag w v) (min_tag_lem w v)
  where
    go : (tag : ℕ) → MinTag w v tag → Carries w tag v
    go tag (itself l e) = inline (omega arith) (sym e)
    go tag (wide l e) =
        let b : inline_limit w ≤ tag = omega arith in
        let d : tag - inline_limit w ≡ width_exponent v = omega arith in
        sized b (rw (width_sized w tag b, d) (exponent_holds v h))

-- ---- the bytes after it
pub length-number_bytes : (w v : ℕ) → length (number_bytes w v) ≡ encoding_width w (min_tag w v)
unfolding number_bytes
length-number_bytes w v = length-big_endian (encoding_width w (min_tag w v)) v

pub AllBytes-number_bytes : (w v : ℕ) → AllBytes (number_bytes w v)
unfolding number_bytes
AllBytes-number_bytes w v = AllBytes-big_endian (encoding_width w (min_tag w v)) v

-- their number is at most 8, and the least with which the value can be carried
min_width : (w v : ℕ) → (encoding_width w (min_tag w v) ≤ 8) × ((tag : ℕ) → Carries w tag v → encoding_width w (min_tag w v) ≤ encoding_width w tag)
min_width w v = go (min_tag w v) (min_tag_lem w v)
  where
    go : (least : ℕ) → MinTag w v least → (encoding_width w least ≤ 8) × ((tag : ℕ) → Carries w tag v → encoding_width w least ≤ encoding_width w tag)
    go least (itself l e) =
        let none : encoding_width w least ≡ 0 = width_inline w least (omega arith) in
        (omega arith, λ tag c. omega arith)
    go least (wide l e) =
        let b : inline_limit w ≤ least = omega arith in
        let d : least - inline_limit w ≡ width_exponent v = omega arith in
        let width : encoding_width w least ≡ 2 ^ width_exponent v = width_sized w least b ∙ ap (λ (j : ℕ). 2 ^ j) d in
        (omega (arith, (two_to_small (width_exponent v) (exponent_small v)).0), λ tag c. fewer width tag c)
      where
        fewer : encoding_width w least ≡ 2 ^ width_exponent v → (tag : ℕ) → Carries w tag v → encoding_width w least ≤ encoding_width w tag
        fewer width tag (inline k q) = absurd (omega arith)
        fewer width tag (sized k q) =
            let x : encoding_width w tag ≡ 2 ^ (tag - inline_limit w) = width_sized w tag k in
            rw (width, x) (pow_mono (exponent_least v (tag - inline_limit w) (rw x at q)))

pub number_bytes_short : (w v : ℕ) → length (number_bytes w v) ≤ 8
number_bytes_short w v = rw (length-number_bytes w v) (min_width w v).0

pub number_bytes_least : (w v tag : ℕ) → Carries w tag v → length (number_bytes w v) ≤ encoding_width w tag
number_bytes_least w v tag c = rw (length-number_bytes w v) ((min_width w v).1 tag c)

-- two to an exponent, as the code shifts it
pub two_to_lem : (k : ℕ) → k < 4 → (1 * 2 ^ k % 18446744073709551616 ≡ 2 ^ k) × (1 ≤ 1 * 2 ^ k % 18446744073709551616) × (1 * 2 ^ k % 18446744073709551616 ≤ 8)
two_to_lem zero h = (refl, omega arith, omega arith)
two_to_lem (suc zero) h = (refl, omega arith, omega arith)
two_to_lem (suc (suc zero)) h = (refl, omega arith, omega arith)
two_to_lem (suc (suc (suc zero))) h = (refl, omega arith, omega arith)
two_to_lem (suc (suc (suc (suc k)))) h = absurd (omega arith)
