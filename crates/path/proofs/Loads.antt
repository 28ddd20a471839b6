-- Numbers, and paths, as flat bytes: there and back.
use Rattle.codec.proofs.Prelude.{◌≡◌, refl, sym, ap, ◌∙◌, List, [], ◌∷◌, ◌++◌, append_assoc, get_or, append-nil, true, ℕ, zero, suc, ◌-◌, ◌*◌, ◌%◌, ◌^◌, ◌≤◌, ◌<◌, mod-eq_of_lt, arith, leb, length, take, drop, length-append, take-append-drop, take_at, drop_at, take-add, take-take, length-take-le, le-leb, leb-true}
use Rattle.codec.specs.Answers.{AllBytes}
use Rattle.codec.proofs.Bytes.{AllBytes-drop, AllBytes-take}
use Rattle.codec.proofs.Tests.{and_left, and_right}
use Rattle.compact_u64.specs.BigEndian.{big_endian, value_of}
use Rattle.compact_u64.proofs.BigEndian.{length-big_endian, value_of-big_endian, big_endian-value_of}
use Rattle.path.specs.Limits.{max_component_length, max_component_count, max_path_length}
use Rattle.path.specs.Record.{Path, all_at_most, used, well_formed, TypedPath}
use Rattle.path.proofs.Lists.{drop-take}
use Rattle.path.proofs.Record.{well_formed_lem}
use Rattle.std.specs.Array.{IsFirstChunk}
use Rattle.path.proofs.Records.{lent_is}
use Rattle.path.specs.Flat.{lent, path_size, shorts, shorts_in, path_flat, path_in}

-- ---- numbers of n bytes
pub number_loads : (n v : ℕ) (r : List ℕ) → v < 256 ^ n → value_of (take n (big_endian n v ++ r)) ≡ v
number_loads n v r h = rw (take_at (big_endian n v) r n (length-big_endian n v)) (value_of-big_endian n v ∙ mod-eq_of_lt h)

pub number_stores : (n : ℕ) (s : List ℕ) → n ≤ length s → AllBytes s → big_endian n (value_of (take n s)) ≡ take n s
number_stores n s h b = rw (length-take-le n s h) at (big_endian-value_of (take n s) (AllBytes-take n s b))

-- ---- numbers of two bytes each
pub at_most_mono : (m n : ℕ) (s : List ℕ) → m ≤ n → all_at_most m s ≡ true → all_at_most n s ≡ true
at_most_mono m n [] h e = refl
at_most_mono m n (x ∷ s) h e =
    let l : x ≤ m = leb-true x m (and_left (leb x m) (all_at_most m s) e) in
    rw (le-leb x n (omega arith), at_most_mono m n s h (and_right (leb x m) (all_at_most m s) e))

pub at_most_append : (n : ℕ) (s t : List ℕ) → all_at_most n s ≡ true → all_at_most n t ≡ true → all_at_most n (s ++ t) ≡ true
at_most_append n [] t e f = f
at_most_append n (x ∷ s) t e f = rw (and_left (leb x n) (all_at_most n s) e, at_most_append n s t (and_right (leb x n) (all_at_most n s) e) f)

pub length-shorts : (vs : List ℕ) → length (shorts vs) ≡ 2 * length vs
length-shorts [] = refl
length-shorts (v ∷ vs) = omega (arith, length-shorts vs)

shorts_load : (vs r : List ℕ) → all_at_most 65535 vs ≡ true → shorts_in (length vs) (shorts vs ++ r) ≡ vs
shorts_load [] r e = refl
shorts_load (v ∷ vs) r e =
    let l : v ≤ 65535 = leb-true v 65535 (and_left (leb v 65535) (all_at_most 65535 vs) e) in
    let first : value_of (big_endian 2 v) ≡ v = value_of-big_endian 2 v ∙ mod-eq_of_lt (omega arith) in
    rw (first, shorts_load vs r (and_right (leb v 65535) (all_at_most 65535 vs) e))

pub shorts_store : (n : ℕ) (s : List ℕ) → 2 * n ≤ length s → AllBytes s → shorts (shorts_in n s) ≡ take (2 * n) s
shorts_store zero s h b = refl
shorts_store (suc n) [] h b = absurd (omega arith)
shorts_store (suc n) (x ∷ []) h b = absurd (omega arith)
shorts_store (suc n) (x ∷ y ∷ s) h b =
    let e : 2 * suc n ≡ suc (suc (2 * n)) = omega arith in
    let first : big_endian 2 (value_of (x ∷ y ∷ [])) ≡ x ∷ y ∷ [] = number_stores 2 (x ∷ y ∷ s) (omega arith) b in
    ap (λ (l : List ℕ). l ++ shorts (shorts_in n s)) first
    ∙ ap (λ (l : List ℕ). x ∷ y ∷ l) (shorts_store n s (omega arith) (AllBytes-drop 2 (x ∷ y ∷ s) b))
    ∙ sym (ap (λ (k : ℕ). take k (x ∷ y ∷ s)) e)

-- ---- paths, whatever follows
pub path_long : (p : Path) → TypedPath p → length (path_flat p) ≡ path_size
unfolding path_flat
path_long p t = rw length-append (omega (arith, length-shorts p.lengths, t.lengths, t.bytes))

-- a count and lengths that fit into their bytes
pub path_fits : (p : Path) (r : List ℕ) → length p.bytes ≡ max_path_length → length p.lengths ≡ max_component_count → p.count < 256 → all_at_most 65535 p.lengths ≡ true → path_in (path_flat p ++ r) ≡ p
unfolding path_flat path_in
path_fits p r room slots few small =
    let count : p.count % 256 ≡ p.count = mod-eq_of_lt few in
    let e : shorts p.lengths ++ p.bytes ++ r ≡ shorts p.lengths ++ (p.bytes ++ r) = append_assoc (shorts p.lengths) p.bytes r in
    let long : length (shorts p.lengths) ≡ 2 * max_component_count = omega (arith, length-shorts p.lengths, slots) in
    let lengths : shorts_in max_component_count (shorts p.lengths ++ (p.bytes ++ r)) ≡ p.lengths = rw slots at (shorts_load p.lengths (p.bytes ++ r) small) in
    rw (e, count, lengths, drop_at (shorts p.lengths) (p.bytes ++ r) (2 * max_component_count) long, take_at p.bytes r max_path_length room)

pub path_loads : (p : Path) (r : List ℕ) → TypedPath p → well_formed p ≡ true → path_in (path_flat p ++ r) ≡ p
path_loads p r t w =
    let f = well_formed_lem p w in
    path_fits p r t.bytes t.lengths (omega (arith, f.count))
    (rw take-append-drop at (at_most_append 65535 (take p.count p.lengths) (drop p.count p.lengths)
    (at_most_mono max_component_length 65535 (used p) (omega arith) f.short) (at_most_mono 0 65535 (drop p.count p.lengths) (omega arith) f.lengths)))

pub path_stores : (s : List ℕ) → path_size ≤ length s → AllBytes s → path_flat (path_in s) ≡ take path_size s
unfolding path_flat path_in
path_stores [] h b = absurd (omega arith)
path_stores (x ∷ s) h b =
    let count : x % 256 ≡ x = mod-eq_of_lt (b 0) in
    let bytes : AllBytes s = λ i. b (suc i) in
    ap (λ (c : ℕ). c ∷ (shorts (shorts_in max_component_count s) ++ take max_path_length (drop (2 * max_component_count) s))) count
    ∙ ap (λ (l : List ℕ). x ∷ (l ++ take max_path_length (drop (2 * max_component_count) s))) (shorts_store max_component_count s (omega arith) bytes)
    ∙ ap (λ (l : List ℕ). x ∷ l) (sym (take-add (2 * max_component_count) max_path_length s))

-- a record that was tested whole
pub flat_back : (p : Path) → TypedPath p → well_formed p ≡ true → path_in (path_flat p) ≡ p
flat_back p t w = rw append-nil at (path_loads p [] t w)

-- ---- what follows a record does not matter
shorts_taken : (n m : ℕ) (s : List ℕ) → 2 * n ≤ m → m ≤ length s → shorts_in n (take m s) ≡ shorts_in n s
shorts_taken zero m s h l = refl
shorts_taken (suc n) m [] h l = absurd (omega arith)
shorts_taken (suc n) m (x ∷ []) h l = absurd (omega arith)
shorts_taken (suc n) zero (x ∷ y ∷ s) h l = absurd (omega arith)
shorts_taken (suc n) (suc zero) (x ∷ y ∷ s) h l = absurd (omega arith)
shorts_taken (suc n) (suc (suc m)) (x ∷ y ∷ s) h l = ap (λ (t : List ℕ). value_of (x ∷ y ∷ []) ∷ t) (shorts_taken n m s (omega arith) (omega arith))

pub path_taken : (s : List ℕ) → path_size ≤ length s → path_in (take path_size s) ≡ path_in s
unfolding path_in
path_taken [] h = absurd (omega arith)
path_taken (x ∷ s) h =
    let bytes : take max_path_length (drop (2 * max_component_count) (take (path_size - 1) s)) ≡ take max_path_length (drop (2 * max_component_count) s) = ap (take max_path_length) (drop-take (2 * max_component_count) (path_size - 1) s) ∙ take-take max_path_length max_path_length (drop (2 * max_component_count) s) (omega arith) in
    let lengths : shorts_in max_component_count (take (path_size - 1) s) ≡ shorts_in max_component_count s = shorts_taken max_component_count (path_size - 1) s (omega arith) (omega arith) in
    λ i. record { bytes = bytes i; lengths = lengths i; count = x }

-- a record at the start of lent bytes
module _ {s y : List ℕ} (first : IsFirstChunk s y path_size) where
  pub first_in : path_in y ≡ path_in s
  first_in = ap path_in first.same ∙ path_taken s first.enough

  pub first_lent : {A : Type 0} (none : A) (part : Path → A) → part (path_in y) ≡ lent none part s
  first_lent none part = ap part first_in ∙ sym (lent_is s first.enough none part)

  pub count_told : get_or y 0 0 ≡ lent 0 (λ p. p.count) s
  unfolding path_in
  count_told = first_lent 0 (λ p. p.count)
