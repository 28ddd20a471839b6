-- Times as flat bytes, there and back; the parts of a whole.
use Rattle.codec.proofs.Prelude.{◌≡◌, refl, sym, ap, ◌∙◌, List, [], ◌∷◌, ◌++◌, Bool, true, false, cond, ◌&&◌, ℕ, zero, suc, ◌+◌, ◌*◌, ◌^◌, ◌≤◌, arith, eqb, length, take, drop, get_or, get_or-drop, length-drop, take-append-drop, take_all, drop_at, drop-drop, drop-cons, eqb-true, ne_eqb, lt-leb, ◌<◌}
use Rattle.codec.specs.Answers.{AllBytes}
use Rattle.codec.specs.Header.{bit}
use Rattle.codec.proofs.Bytes.{AllBytes-drop}
use Rattle.compact_u64.specs.BigEndian.{big_endian, value_of}
use Rattle.grouping.specs.declared.RangeEnd.{RangeEnd}
use Rattle.grouping.specs.declared.RangeEnd.TheVariants.{Closed, Open}
use Rattle.grouping.specs.declared.TimeRange.{TimeRange}
use Rattle.grouping.specs.Range.{TypedRange, is_open, end_value, top}
use Rattle.flat.specs.Times.{times_size, end_time, times_flat, times_marked, times_in}
use Rattle.path.specs.Record.{all_at_most}
use Rattle.flat.specs.Optional.{option_marked}
use Rattle.compact_u64.proofs.BigEndian.{pow256_pos}
use Rattle.path.proofs.Loads.{number_loads, number_stores}

-- ---- times
pub times_marked_lem : (t : TimeRange) → times_marked (times_flat t) ≡ true
unfolding times_marked times_flat
times_marked_lem t = go t.end
  where
    go : (e : RangeEnd) → times_marked (big_endian 8 t.start ++ (bit (is_open e) ∷ big_endian 8 (end_time e))) ≡ true
    go (Closed x) = refl
    go Open = refl

pub times_loads : (t : TimeRange) → TypedRange t → times_in (times_flat t) ≡ t
unfolding times_in times_flat
times_loads t h = go t.end h.end
  where
    start : (r : List ℕ) → value_of (take 8 (big_endian 8 t.start ++ r)) ≡ t.start
    start r = number_loads 8 t.start r (omega (arith, h.start))

    go : (e : RangeEnd) → end_value e ≤ top → times_in (big_endian 8 t.start ++ (bit (is_open e) ∷ big_endian 8 (end_time e))) ≡ record { start = t.start; end = e }
    go (Closed x) l =
        let end : value_of (big_endian 8 x) ≡ x = number_loads 8 x [] (omega arith) in
        rw (start (0 ∷ big_endian 8 x), end)
    go Open l = rw (start (1 ∷ big_endian 8 0))

pub times_stores : (s : List ℕ) → length s ≡ times_size → AllBytes s → times_marked s ≡ true → times_flat (times_in s) ≡ s
unfolding times_marked times_in times_flat
times_stores s long b m = ap (λ (l : List ℕ). l ++ end_of) (number_stores 8 s (omega arith) b) ∙ go (eqb (get_or s 8 0) 1) refl ∙ parts
  where
    value : ℕ
    value = value_of (take 8 (drop 9 s))

    end : RangeEnd
    end = cond (eqb (get_or s 8 0) 1) Open (Closed value)

    end_of : List ℕ
    end_of = bit (is_open end) ∷ big_endian 8 (end_time end)

    bytes : big_endian 8 value ≡ take 8 (drop 9 s)
    bytes = number_stores 8 (drop 9 s) (rw length-drop (omega arith)) (AllBytes-drop 9 s b)

    parts : take 8 s ++ (get_or s 8 0 ∷ take 8 (drop 9 s)) ≡ s
    parts =
        let all : take 8 (drop 9 s) ≡ drop 9 s = take_all 8 (drop 9 s) (rw length-drop (omega arith)) in
        rw (all, ← (drop-cons s 8 0 (omega arith))) (take-append-drop 8 s)

    marked : (a c : Bool) → eqb (get_or s 8 0) 1 ≡ a → eqb (get_or s 8 0) 0 ≡ c → cond c true (a && eqb value 0) ≡ true
    marked a c e f = rw (← e, ← f) m

    go : (a : Bool) → eqb (get_or s 8 0) 1 ≡ a
        → take 8 s ++ (bit (is_open (cond a Open (Closed value))) ∷ big_endian 8 (end_time (cond a Open (Closed value)))) ≡ take 8 s ++ (get_or s 8 0 ∷ take 8 (drop 9 s))
    go true e =
        let one : get_or s 8 0 ≡ 1 = eqb-true (get_or s 8 0) 1 e in
        let zero : value ≡ 0 = eqb-true value 0 (marked true false e (ne_eqb (get_or s 8 0) 0 (λ z. omega (arith, z, one)))) in
        rw (one, ← bytes, zero)
    go false e = other (eqb (get_or s 8 0) 0) refl
      where
        other : (c : Bool) → eqb (get_or s 8 0) 0 ≡ c → take 8 s ++ (0 ∷ big_endian 8 value) ≡ take 8 s ++ (get_or s 8 0 ∷ take 8 (drop 9 s))
        other true f =
            ap (λ (l : List ℕ). take 8 s ++ (0 ∷ l)) bytes
            ∙ ap (λ (n : ℕ). take 8 s ++ (n ∷ take 8 (drop 9 s))) (sym (eqb-true (get_or s 8 0) 0 f))
        other false f = let no : false ≡ true = marked false false e f in let z : ◌≡◌ {A = ℕ} 0 1 = cc in absurd (omega arith)

pub times_long : (t : TimeRange) → length (times_flat t) ≡ times_size
unfolding times_flat
times_long t = refl

-- ---- the parts of a whole
pub drop_two : (a b c : List ℕ) (n m : ℕ) → length a ≡ n → length b ≡ m → drop (n + m) (a ++ (b ++ c)) ≡ c
drop_two a b c n m ea eb = sym (drop-drop m n (a ++ (b ++ c))) ∙ rw (drop_at a (b ++ c) n ea, drop_at b c m eb)

pub three : (s : List ℕ) (n m : ℕ) → take n s ++ (take m (drop n s) ++ drop (n + m) s) ≡ s
three s n m = rw (← (drop-drop m n s), take-append-drop m (drop n s), take-append-drop n s)

-- ---- the mark and the end are a part that may be missing
-- bytes make zero just where each is
zero_bytes : (s : List ℕ) → eqb (value_of s) 0 ≡ all_at_most 0 s
zero_bytes [] = refl
zero_bytes (zero ∷ s) = let e : 0 * 256 ^ length s + value_of s ≡ value_of s = omega arith in rw e (zero_bytes s)
zero_bytes (suc b ∷ s) = rw (lt-leb (suc b) 0 (omega arith)) (ne_eqb (suc b * 256 ^ length s + value_of s) 0 (λ z. omega (arith, z, some b (length s))))
  where
    some : (b n : ℕ) → 0 < suc b * 256 ^ n
    some b n = let e : suc b * 256 ^ n ≡ b * 256 ^ n + 256 ^ n = omega arith in omega (arith, e, pow256_pos n)

pub times_marked_option : (s : List ℕ) → times_marked s ≡ option_marked 8 (drop 8 s)
unfolding times_marked option_marked
times_marked_option s = rw (get_or-drop 8 s 0 0, drop-drop 1 8 s, zero_bytes (take 8 (drop 9 s)))
