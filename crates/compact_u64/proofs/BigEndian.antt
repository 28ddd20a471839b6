-- Laws of a number's bytes, the highest first.
use Rattle.codec.proofs.Prelude.{◌≡◌, refl, sym, ap, ◌∙◌, List, [], ◌∷◌, ◌++◌, ℕ, zero, suc, ◌+◌, ◌*◌, ◌/◌, ◌%◌, ◌^◌, ◌≤◌, ◌<◌, pow-suc, pow-succ', mod-lt, mod-eq_of_lt, mul_assoc, mod-one, mul-add-div_right, mul-add-mod_self_right, div-div-eq-div-mul, add-one, arith, digits_div, mod-mul, digits_lt, pow_mono, pow-add, length, take, drop, set, get_or, length-set, length-append, take-suc, drop-cons, get_or-set_same, drop-set-lt}
use Rattle.codec.specs.Answers.{AllBytes}
use Rattle.compact_u64.specs.BigEndian.{big_endian, value_of}

pub length-big_endian : (n v : ℕ) → length (big_endian n v) ≡ n
length-big_endian zero v = refl
length-big_endian (suc n) v = ap suc (length-big_endian n v)

pub AllBytes-big_endian : (n v : ℕ) → AllBytes (big_endian n v)
AllBytes-big_endian zero v i = omega arith
AllBytes-big_endian (suc n) v zero = mod-lt (v / 256 ^ n) (omega arith)
AllBytes-big_endian (suc n) v (suc i) = AllBytes-big_endian n v i

pub pow256_pos : (n : ℕ) → 0 < 256 ^ n
pow256_pos zero = omega arith
pow256_pos (suc n) = rw pow-suc (omega (arith, pow256_pos n))

-- ---- there and back
pub value_of-big_endian : (n v : ℕ) → value_of (big_endian n v) ≡ v % 256 ^ n
value_of-big_endian zero v = sym (mod-one v)
value_of-big_endian (suc n) v = rw (length-big_endian n v, value_of-big_endian n v, pow-succ') (sym (mod-mul v (omega arith) (pow256_pos n)))

pub value_of_lt : (s : List ℕ) → AllBytes s → value_of s < 256 ^ length s
value_of_lt [] h = omega arith
value_of_lt (b ∷ s) h = rw pow-succ' (digits_lt (h 0) (value_of_lt s (λ i. h (suc i))))

big_endian_add : (n q r : ℕ) → big_endian n (q * 256 ^ n + r) ≡ big_endian n r
big_endian_add zero q r = refl
big_endian_add (suc n) q r =
    let e : q * 256 ^ suc n + r ≡ q * 256 * 256 ^ n + r = rw (pow-succ', mul_assoc) in
    rw (e, mul-add-div_right (pow256_pos n) (q * 256) r, mul-add-mod_self_right q 256 (r / 256 ^ n), big_endian_add n (q * 256) r)

pub big_endian-value_of : (s : List ℕ) → AllBytes s → big_endian (length s) (value_of s) ≡ s
big_endian-value_of [] h = refl
big_endian-value_of (b ∷ s) h =
    let lt : value_of s < 256 ^ length s = value_of_lt s (λ i. h (suc i)) in
    rw (digits_div b lt, mod-eq_of_lt (h 0), big_endian_add (length s) b (value_of s), big_endian-value_of s (λ i. h (suc i)))

-- ---- one byte more read
value_of_snoc : (s : List ℕ) (b : ℕ) → value_of (s ++ (b ∷ [])) ≡ value_of s * 256 + b
value_of_snoc [] b = omega arith
value_of_snoc (x ∷ s) b =
    let l : length (s ++ (b ∷ [])) ≡ suc (length s) = simp length-append (omega arith) in
    let e : x * 256 ^ suc (length s) ≡ x * 256 ^ length s * 256 = rw pow-suc (sym (mul_assoc x (256 ^ length s) 256)) in
    rw (l, value_of_snoc s b, e) (omega arith)

pub value_next : (s : List ℕ) (i : ℕ) → i < length s → value_of (take (i + 1) s) ≡ value_of (take i s) * 256 + get_or s i 0
value_next s i h = rw (add-one, take-suc s i 0) (value_of_snoc (take i s) (get_or s i 0))

-- i bytes leave room for one more in a u64
pub room : (i v b : ℕ) → i < 8 → v < 2 ^ (8 * i) → b < 256 → v * 256 + b < 2 ^ (8 * (i + 1))
room i v b h hv hb =
    let e : 2 ^ (8 * (i + 1)) ≡ 2 ^ (8 * i) * 256 = ap (λ (n : ℕ). 2 ^ n) (omega arith) ∙ pow-add 2 (8 * i) 8 in
    omega arith

pub room64 : (i v b : ℕ) → i < 8 → v < 2 ^ (8 * i) → b < 256 → v * 256 + b < 2 ^ 64
room64 i v b h hv hb =
    let r : v * 256 + b < 2 ^ (8 * (i + 1)) = room i v b h hv hb in
    let m : 2 ^ (8 * (i + 1)) ≤ 2 ^ 64 = pow_mono {i = 8 * (i + 1)} {j = 64} (omega arith) in
    omega arith

-- ---- one byte more written, in front of k that stand already
pub next_digit : (v k : ℕ) → v / 256 ^ k / 256 ≡ v / 256 ^ (k + 1)
next_digit v k = rw (add-one, pow-suc) (div-div-eq-div-mul v (256 ^ k) 256)

pub put_one : (l r : List ℕ) (i k v x : ℕ) → i < length l → drop (i + 1) l ≡ big_endian k v ++ r → x ≡ v / 256 ^ k
    → drop i (set l i (x % 256)) ≡ big_endian (k + 1) v ++ r
put_one l r i k v x h e d =
    let h' : i < length (set l i (x % 256)) = rw length-set h in
    rw (drop-cons (set l i (x % 256)) i 0 h', get_or-set_same l i (x % 256) 0 h, add-one k, d)
    (ap (λ (t : List ℕ). (v / 256 ^ k % 256) ∷ t) (drop-set-lt (suc i) l i _ (omega arith) ∙ rw (← add-one) e))
