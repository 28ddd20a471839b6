-- Laws of a lent record: its parts where its bytes stand.
use Rattle.codec.proofs.Prelude.{◌≡◌, refl, sym, ap, ◌∙◌, List, [], ◌∷◌, true, false, Bool, ◌&&◌, ℕ, zero, suc, ◌+◌, ◌*◌, ◌≤◌, ◌<◌, ◌-◌, sub-zero, zero-sub, zero-add, add-one, arith, leb, leb-true, leb-false, min, eqb, lt-leb, le-leb, eq-eqb, ne_eqb, length, take, drop, get_or, length-drop, drop-cons, drop-drop, length-take-le, take_all, get_or-take, List·getD-eq-default}
use lib.ListN.{length-take}
use Rattle.compact_u64.specs.BigEndian.{value_of}
use Rattle.path.specs.Record.{Path, sum_of, components_of, start_at, all_at_most, length_at, sized, well_formed}
use Rattle.path.specs.Limits.{max_component_length, max_component_count, max_path_length, total_of}
use Rattle.path.specs.Flat.{bytes_start, path_size, shorts_in, path_in, lent}
use Rattle.path.proofs.Lists.{at_most_next, at_most_end, drop-take}
use Rattle.path.proofs.Shorts.{short_there}
use Rattle.path.proofs.Components.{Formed, well_sized, start_is, rest_total}

-- ---- the lengths
pub length-shorts_in : (n : ℕ) (s : List ℕ) → length (shorts_in n s) ≡ n
length-shorts_in zero s = refl
length-shorts_in (suc n) s = ap suc (length-shorts_in n (drop 2 s))

short_at : (n : ℕ) (s : List ℕ) (i : ℕ) → i < n → get_or (shorts_in n s) i 0 ≡ value_of (take 2 (drop (2 * i) s))
short_at zero s i h = absurd (omega arith)
short_at (suc n) s zero h = refl
short_at (suc n) s (suc i) h =
    let e : 2 * suc i ≡ 2 + 2 * i = omega arith in
    rw (e, ← (drop-drop (2 * i) 2 s)) (short_at n (drop 2 s) i (omega arith))

module _ (s : List ℕ) where
  count_first : (path_in s).count ≡ get_or s 0 0
  unfolding path_in
  count_first = refl

  pub slots : length (path_in s).lengths ≡ max_component_count
  unfolding path_in
  slots = length-shorts_in max_component_count (drop 1 s)

  pub length_past : (i : ℕ) → max_component_count ≤ i → length_at (path_in s) i ≡ 0
  unfolding length_at
  length_past i past = List·getD-eq-default (path_in s).lengths 0 {n = i} (omega (arith, slots))

  module _ (h : path_size ≤ length s) where
    pub room : length (path_in s).bytes ≡ max_path_length
    unfolding path_in
    room = length-take-le max_path_length (drop bytes_start s) (rw length-drop (omega arith))

    pub length_there : (i : ℕ) → i < max_component_count → length_at (path_in s) i ≡ get_or s (1 + 2 * i) 0 * 256 + get_or s (1 + 2 * i + 1) 0
    unfolding path_in length_at
    length_there i few =
        let e = short_at max_component_count (drop 1 s) i few in
        rw (drop-drop (2 * i) 1 s) at e ∙ sym (short_there s (1 + 2 * i) (omega arith))

    -- what the functions on any bytes say of a whole record
    pub lent_is : {A : Type 0} (none : A) (part : Path → A) → lent none part s ≡ part (path_in s)
    lent_is none part = rw (le-leb path_size (length s) h)

-- fewer bytes than a record's are not within the limits
pub whole_in : (s : List ℕ) → Formed (path_in s) → path_size ≤ length s
unfolding path_in
whole_in s f = omega (arith, rw (length-take, length-drop) at f.bytes)

-- what the functions on any bytes say of a record whose sizes were tested
module _ (s : List ℕ) (f : Formed (path_in s)) where
  pub lent_known : {A : Type 0} (none : A) (part : Path → A) → lent none part s ≡ part (path_in s)
  lent_known none part = lent_is s (whole_in s f) none part

  pub span_start : (k : ℕ) → k ≤ (path_in s).count → lent 0 (λ p. sum_of (take (k - 0) (drop 0 p.lengths))) s ≡ start_at (path_in s) k
  span_start k h = lent_known 0 (λ p. sum_of (take (k - 0) (drop 0 p.lengths))) ∙ rw (sub-zero k) (sym (start_is (path_in s) f k h))

  pub span_rest : (k n : ℕ) → n ≡ (path_in s).count → lent 0 (λ p. sum_of (take (n - k) (drop k p.lengths))) s ≡ total_of (drop k (components_of (path_in s)))
  span_rest k n e =
      lent_known 0 (λ p. sum_of (take (n - k) (drop k p.lengths)))
      ∙ rw (e, ← (drop-take k (path_in s).count (path_in s).lengths)) (sym (rest_total (path_in s) f k))

-- ---- sums of lengths
module _ (s : List ℕ) (i : ℕ) where
  pub span_next : (to : ℕ) → i < max_component_count → i < to → sum_of (take (to - i) (drop i (path_in s).lengths)) ≡ length_at (path_in s) i + sum_of (take (to - (i + 1)) (drop (i + 1) (path_in s).lengths))
  unfolding length_at
  span_next to few more =
      let there : i < length (path_in s).lengths = omega (arith, slots s) in
      let n : to - i ≡ suc (to - (i + 1)) = omega arith in
      rw (n, drop-cons (path_in s).lengths i 0 there, add-one i)

-- places after the last do not matter
pub span_capped : (s : List ℕ) (from to : ℕ) → max_component_count < to → take (to - from) (drop from (path_in s).lengths) ≡ take (max_component_count - from) (drop from (path_in s).lengths)
span_capped s from to h =
    let ls = (path_in s).lengths in
    let a : length (drop from ls) ≤ to - from = rw length-drop (omega (arith, slots s)) in
    let b : length (drop from ls) ≤ max_component_count - from = rw length-drop (omega (arith, slots s)) in
    take_all (to - from) (drop from ls) a ∙ sym (take_all (max_component_count - from) (drop from ls) b)

pub span_min : (s : List ℕ) (from to m : ℕ) → m ≡ min to max_component_count → take (m - from) (drop from (path_in s).lengths) ≡ take (to - from) (drop from (path_in s).lengths)
span_min s from to m e = go (leb to max_component_count) refl
  where
    go : (b : Bool) → leb to max_component_count ≡ b → take (m - from) (drop from (path_in s).lengths) ≡ take (to - from) (drop from (path_in s).lengths)
    go true h = let k : m ≡ to = omega (arith, e, leb-true to max_component_count h) in rw k
    go false h =
        let over = leb-false to max_component_count h in
        let k : m ≡ max_component_count = omega (arith, e, over) in
        rw k (sym (span_capped s from to over))

-- ---- the first n lengths, tested from the i-th on
module _ (s : List ℕ) (n : ℕ) (few : n ≤ max_component_count) where
  in_use : length (take n (path_in s).lengths) ≡ n
  in_use = length-take-le n (path_in s).lengths (omega (arith, slots s))

  pub short_next : (i : ℕ) → i < n → all_at_most max_component_length (drop i (take n (path_in s).lengths)) ≡ (leb (length_at (path_in s) i) max_component_length && all_at_most max_component_length (drop (i + 1) (take n (path_in s).lengths)))
  unfolding length_at
  short_next i h = at_most_next max_component_length (take n (path_in s).lengths) i (omega (arith, in_use)) ∙ rw (get_or-take n (path_in s).lengths i 0 h)

  pub short_end : (i : ℕ) → n ≤ i → all_at_most max_component_length (drop i (take n (path_in s).lengths)) ≡ true
  short_end i h = at_most_end max_component_length (take n (path_in s).lengths) i (omega (arith, in_use))

-- ---- zeros
zero_pair : (x y : ℕ) → leb (x * 256 + y) 0 ≡ (leb x 0 && leb y 0)
zero_pair zero y = rw (zero-add y)
zero_pair (suc x) y =
    let some : leb (suc x) 0 ≡ false = lt-leb (suc x) 0 (omega arith) in
    rw (lt-leb (suc x * 256 + y) 0 (omega arith), some)

zero_shorts : (n : ℕ) (s : List ℕ) → 2 * n ≤ length s → all_at_most 0 (shorts_in n s) ≡ all_at_most 0 (take (2 * n) s)
zero_shorts zero s h = refl
zero_shorts (suc n) [] h = absurd (omega arith)
zero_shorts (suc n) (x ∷ []) h = absurd (omega arith)
zero_shorts (suc n) (x ∷ y ∷ s) h =
    let e : 2 * suc n ≡ suc (suc (2 * n)) = omega arith in
    let v : value_of (x ∷ y ∷ []) ≡ x * 256 + y = sym (short_there (x ∷ y ∷ s) 0 (omega arith)) in
    rw (e, v, zero_pair x y, zero_shorts n s (omega arith)) (and_assoc (leb x 0) (leb y 0) _)
  where
    and_assoc : (a b c : Bool) → (a && b && c) ≡ (a && (b && c))
    and_assoc true b c = refl
    and_assoc false b c = refl

drop-shorts : (k n : ℕ) (s : List ℕ) → drop k (shorts_in n s) ≡ shorts_in (n - k) (drop (2 * k) s)
drop-shorts zero n s = rw (sub-zero n)
drop-shorts (suc k) zero s = rw (zero-sub (suc k))
drop-shorts (suc k) (suc n) s =
    let e : 2 * suc k ≡ 2 + 2 * k = omega arith in
    let f : suc n - suc k ≡ n - k = omega arith in
    rw (e, f, ← (drop-drop (2 * k) 2 s)) (drop-shorts k n (drop 2 s))

module _ (s : List ℕ) (h : path_size ≤ length s) where
  -- unused lengths and unused bytes, as they stand
  zero_lengths : (n : ℕ) → n ≤ max_component_count → all_at_most 0 (drop n (path_in s).lengths) ≡ all_at_most 0 (take (bytes_start - (1 + 2 * n)) (drop (1 + 2 * n) s))
  unfolding path_in
  zero_lengths n few =
      let e : bytes_start - (1 + 2 * n) ≡ 2 * (max_component_count - n) = omega arith in
      rw (drop-shorts n max_component_count (drop 1 s), drop-drop (2 * n) 1 s, e) (zero_shorts (max_component_count - n) (drop (1 + 2 * n) s) (rw length-drop (omega arith)))

  zero_bytes : (t : ℕ) → all_at_most 0 (drop t (path_in s).bytes) ≡ all_at_most 0 (take (path_size - (bytes_start + t)) (drop (bytes_start + t) s))
  unfolding path_in
  zero_bytes t =
      let e : path_size - (bytes_start + t) ≡ max_path_length - t = omega arith in
      rw (drop-take t max_path_length (drop bytes_start s), drop-drop t bytes_start s, e)

-- ---- the tests of the sizes and of the whole, as the code makes them
module _ (s : List ℕ) where
  pub sized_short : length s < path_size → sized (path_in s) ≡ false
  unfolding sized path_in
  sized_short h =
      let short : eqb (length (take max_path_length (drop bytes_start s))) max_path_length ≡ false = ne_eqb (length (take max_path_length (drop bytes_start s))) max_path_length (λ (e : length (take max_path_length (drop bytes_start s)) ≡ max_path_length). omega (arith, rw (length-take, length-drop) at e)) in
      rw short

  pub well_short : length s < path_size → well_formed (path_in s) ≡ false
  well_short h = go (well_formed (path_in s)) refl
    where
      go : (b : Bool) → well_formed (path_in s) ≡ b → b ≡ false
      go true w = sym (well_sized (path_in s) w) ∙ sized_short h
      go false w = refl

  module _ (h : path_size ≤ length s) where
    pub sized_whole : sized (path_in s) ≡ (leb (get_or s 0 0) max_component_count && leb (sum_of (take (get_or s 0 0 - 0) (path_in s).lengths)) max_path_length)
    unfolding sized
    sized_whole = rw (eq-eqb _ _ (room s h), eq-eqb _ _ (slots s), count_first s, sub-zero)

    pub well_many : max_component_count < get_or s 0 0 → well_formed (path_in s) ≡ false
    unfolding well_formed
    well_many many = rw (eq-eqb _ _ (room s h), eq-eqb _ _ (slots s), count_first s, lt-leb (get_or s 0 0) max_component_count many)

    pub well_few : get_or s 0 0 ≤ max_component_count → well_formed (path_in s)
        ≡ (all_at_most max_component_length (take (get_or s 0 0) (path_in s).lengths) && (leb (sum_of (take (get_or s 0 0) (path_in s).lengths)) max_path_length
        && (all_at_most 0 (take (bytes_start - (1 + 2 * get_or s 0 0)) (drop (1 + 2 * get_or s 0 0) s))
        && all_at_most 0 (take (path_size - (bytes_start + sum_of (take (get_or s 0 0) (path_in s).lengths))) (drop (bytes_start + sum_of (take (get_or s 0 0) (path_in s).lengths)) s)))))
    unfolding well_formed
    well_few few = rw (eq-eqb _ _ (room s h), eq-eqb _ _ (slots s), count_first s, le-leb (get_or s 0 0) max_component_count few, zero_lengths s h (get_or s 0 0) few, zero_bytes s h (sum_of (take (get_or s 0 0) (path_in s).lengths)))
