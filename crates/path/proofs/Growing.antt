-- Laws of builders in a lent record.
use Rattle.codec.proofs.Prelude.{◌≡◌, refl, sym, ap, ◌∙◌, List, [], ◌∷◌, ◌++◌, map, append_assoc, append-nil, map-append, true, false≢true, ℕ, zero, suc, ◌+◌, ◌-◌, ◌*◌, ◌/◌, ◌%◌, ◌≤◌, ◌<◌, sub-zero, zero-sub, mod-eq_of_lt, arith, le-leb, eq-eqb, put_mid, length, take, drop, set, replicate, length-append, length-drop, length-map, length-replicate, length-take, take_at, drop_at, drop-append-le, take-take}
use Rattle.std.specs.Prelude.{Result, Ok, Err}
use Rattle.std.specs.Result.{is_ok, result_unwrap_or}
use Rattle.std.specs.Int.{w16, to_be_bytes}
use Rattle.compact_u64.specs.BigEndian.{big_endian}
use Rattle.codec.specs.Answers.{AllBytes}
use Rattle.codec.specs.Format.{over}
use Rattle.codec.proofs.Bytes.{AllBytes-drop}
use Rattle.codec.proofs.Lending.{over_one}
use Rattle.path.specs.Limits.{max_component_length, max_component_count, max_path_length, total_of}
use Rattle.path.specs.Record.{sum_of, used, joined, cut_up, components_of, start_at, path_from, all_at_most, sized}
use Rattle.path.specs.Flat.{lengths_start, bytes_start, path_size, shorts, shorts_in, path_flat, path_in}
use Rattle.path.specs.Builder.{Built, built, builder_of, built_from, over_from, record_more, built_more, Appends}
use Rattle.path.specs.declared.PathBuilder.{PathBuilder}
use Rattle.path.specs.declared.PathError.{PathError}
use Rattle.path.proofs.Lists.{drop_zeros, length-joined, joined-append, all_zeros, Cut, cut, take_cut}
use Rattle.path.proofs.Limits.{total_append, total_snoc}
use Rattle.path.proofs.Record.{bytes_long, lengths_long, count_of, components_of_lem, sum_of_lem}
use Rattle.path.proofs.Components.{Formed, start_is, start_small, prefix_count}
use Rattle.path.proofs.Loads.{at_most_append, at_most_mono, length-shorts, shorts_store, path_fits}
use Rattle.path.proofs.Records.{whole_in}
use Rattle.path.proofs.Builder.{fits_after_lem}

-- ---- the record of components, there and back
lengths_small : (cs : List (List ℕ)) (n : ℕ) → total_of cs ≤ n → all_at_most n (map length cs) ≡ true
lengths_small [] n h = refl
lengths_small (c ∷ cs) n h = rw (le-leb (length c) n (omega arith)) (lengths_small cs n (omega arith))

module _ (cs : List (List ℕ)) (few : length cs ≤ max_component_count) (fits : total_of cs ≤ max_path_length) where
  all_small : all_at_most 65535 (path_from cs).lengths ≡ true
  unfolding path_from
  all_small =
      at_most_append 65535 (map length cs) (replicate (max_component_count - length cs) 0) (lengths_small cs 65535 (omega arith))
      (at_most_mono 0 65535 (replicate (max_component_count - length cs) 0) (omega arith) (all_zeros (max_component_count - length cs)))

  pub flat_in : path_in (path_flat (path_from cs)) ≡ path_from cs
  flat_in = rw append-nil at (path_fits (path_from cs) [] (bytes_long cs fits) (lengths_long cs few) (omega (arith, count_of cs)) all_small)

  pub sized_from : sized (path_from cs) ≡ true
  unfolding sized
  sized_from =
      rw (eq-eqb _ _ (bytes_long cs fits), eq-eqb _ _ (lengths_long cs few), le-leb (path_from cs).count max_component_count (omega (arith, count_of cs)))
      (le-leb (sum_of (used (path_from cs))) max_path_length (omega (arith, sum_of_lem cs)))

-- the empty one
pub flat_empty : replicate path_size 0 ≡ path_flat (path_from [])
unfolding path_flat path_from
flat_empty = refl

pub in_empty : path_in (replicate path_size 0) ≡ path_from []
in_empty = ap path_in flat_empty ∙ flat_in [] (omega arith) (omega arith)

-- ---- bytes over others from a place on
over_mid : (a z c : List ℕ) (at : ℕ) → length a ≡ at → over_from at c (a ++ z) ≡ a ++ over c z
over_mid a z c at e = rw (take_at a z at e, drop_at a z at e)

over_bytes : (x : ℕ) (s j z c : List ℕ) (t : ℕ) → length s ≡ 2 * max_component_count → length j ≡ t → over_from (bytes_start + t) c (x ∷ (s ++ (j ++ z))) ≡ x ∷ (s ++ (j ++ over c z))
over_bytes x s j z c t hs hj =
    ap (λ (l : List ℕ). over_from (bytes_start + t) c (x ∷ l)) (sym (append_assoc s j z))
    ∙ over_mid (x ∷ (s ++ j)) z c (bytes_start + t) (simp length-append (omega arith))
    ∙ ap (λ (l : List ℕ). x ∷ l) (append_assoc s j (over c z))

over_lengths : (x : ℕ) (a b d t : List ℕ) (n : ℕ) → length a ≡ 2 * n → length d ≤ length b → over_from (1 + 2 * n) d (x ∷ ((a ++ b) ++ t)) ≡ x ∷ ((a ++ (d ++ drop (length d) b)) ++ t)
over_lengths x a b d t n ha h =
    ap (λ (l : List ℕ). over_from (1 + 2 * n) d (x ∷ l)) (append_assoc a b t)
    ∙ over_mid (x ∷ a) (b ++ t) d (1 + 2 * n) (omega arith)
    ∙ ap (λ (l : List ℕ). x ∷ (a ++ (d ++ l))) (drop-append-le (length d) b t h)
    ∙ ap (λ (l : List ℕ). x ∷ (a ++ l)) (sym (append_assoc d (drop (length d) b) t))
    ∙ ap (λ (l : List ℕ). x ∷ l) (sym (append_assoc a (d ++ drop (length d) b) t))

shorts-append : (a b : List ℕ) → shorts (a ++ b) ≡ shorts a ++ shorts b
shorts-append [] b = refl
shorts-append (v ∷ a) b = ap (λ (l : List ℕ). shorts (v ∷ []) ++ l) (shorts-append a b)

drop_short_zeros : (k n : ℕ) → drop (2 * k) (shorts (replicate n 0)) ≡ shorts (replicate (n - k) 0)
drop_short_zeros zero n = rw (sub-zero n)
drop_short_zeros (suc k) zero = let e : 2 * suc k ≡ suc (2 * k + 1) = omega arith in rw (zero-sub (suc k), e)
drop_short_zeros (suc k) (suc n) =
    let e : suc n - suc k ≡ n - k = omega arith in
    let f : 2 * suc k ≡ suc (suc (2 * k)) = omega arith in
    rw (e, f) (drop_short_zeros k n)

-- ---- components after others
module _ (cs ds : List (List ℕ)) (few : length cs + length ds ≤ max_component_count) (fits : total_of cs + total_of ds ≤ max_path_length) where
  pub more_of : record_more (total_of cs) (length cs) ds (path_flat (path_from cs)) ≡ path_flat (path_from (cs ++ ds))
  unfolding record_more path_flat path_from
  more_of =
      let x = length cs % 256 in
      let a = shorts (map length cs) in
      let b = shorts (replicate (max_component_count - length cs) 0) in
      let d = shorts (map length ds) in
      let j = joined cs in
      let z = replicate {A = ℕ} (max_path_length - total_of cs) 0 in
      let ha : length a ≡ 2 * length cs = length-shorts (map length cs) ∙ rw length-map in
      let hd : length d ≡ 2 * length ds = length-shorts (map length ds) ∙ rw length-map in
      let hb : length b ≡ 2 * (max_component_count - length cs) = length-shorts (replicate (max_component_count - length cs) 0) ∙ rw length-replicate in
      let hs : length (a ++ b) ≡ 2 * max_component_count = simp length-append (omega arith) in
      let bytes = over_bytes x (a ++ b) j z (joined ds) (total_of cs) hs (length-joined cs) in
      let lengths = over_lengths x a b d (j ++ over (joined ds) z) (length cs) ha (omega arith) in
      let n : max_component_count - length cs - length ds ≡ max_component_count - (length cs + length ds) = omega arith in
      let t : max_path_length - total_of cs - total_of ds ≡ max_path_length - (total_of cs + total_of ds) = omega arith in
      let rest : drop (length d) b ≡ shorts (replicate (max_component_count - (length cs + length ds)) 0) =
      rw hd (drop_short_zeros (length ds) (max_component_count - length cs) ∙ ap (λ (k : ℕ). shorts (replicate k 0)) n) in
      let zeros : drop (length (joined ds)) z ≡ replicate (max_path_length - (total_of cs + total_of ds)) 0 =
      rw (length-joined ds) (drop_zeros (total_of ds) (max_path_length - total_of cs) ∙ ap (λ (k : ℕ). replicate {A = ℕ} k 0) t) in
      let first : List ℕ → List ℕ = over ((length cs + length ds) ∷ []) in
      let pc : length cs + length ds ≡ length (cs ++ ds) % 256 = sym (rw length-append (mod-eq_of_lt (omega arith))) in
      let pl : a ++ (d ++ drop (length d) b) ≡ shorts (map length (cs ++ ds) ++ replicate (max_component_count - length (cs ++ ds)) 0) =
      rw (rest, map-append length cs ds, length-append cs ds, shorts-append (map length cs ++ map length ds) _, shorts-append (map length cs) (map length ds)) (sym (append_assoc a d _)) in
      let pb : j ++ over (joined ds) z ≡ joined (cs ++ ds) ++ replicate (max_path_length - total_of (cs ++ ds)) 0 =
      rw (zeros, joined-append cs ds, total_append cs ds) (sym (append_assoc j (joined ds) _)) in
      ap (λ (l : List ℕ). first (over_from (1 + 2 * length cs) d (over_from (bytes_start + total_of cs) (joined ds) (x ∷ (l ++ (j ++ z)))))) (shorts-append (map length cs) (replicate (max_component_count - length cs) 0))
      ∙ ap (λ (l : List ℕ). first (over_from (1 + 2 * length cs) d l)) bytes
      ∙ ap first lengths
      ∙ (λ i. pc i ∷ (pl i ++ pb i))

-- one more
built_more_lem : (cs : List (List ℕ)) (c : List ℕ) → length cs < max_component_count → total_of cs + length c ≤ max_path_length → built_more (built_from cs).builder c (built_from cs).bytes ≡ built_from (cs ++ (c ∷ []))
unfolding built_from
built_more_lem cs c few fits =
    let bytes = more_of cs (c ∷ []) (omega arith) (omega arith) in
    let count : length cs + 1 ≡ length (cs ++ (c ∷ [])) = sym (length-append cs (c ∷ [])) in
    λ i. built (builder_of (sym (total_snoc cs c) i) (count i)) (bytes i)

-- a component that fits is not refused
pub appends_grown : (b : PathBuilder) (c : List ℕ) {s : List ℕ} (g : Result PathBuilder PathError) {left : List ℕ} → Appends b c s g left → length c ≤ max_component_length → b.count < max_component_count → b.total + length c ≤ max_path_length → is_ok g ≡ true
appends_grown b c (Ok g) a short few fits = refl
appends_grown b c (Err e) a short few fits =
    let w = rw (fits_after_lem b.total b.count (length c) short few fits) at a.answer in
    let z : ◌≡◌ {A = ℕ} 0 1 = cc in
    absurd (omega arith)

-- a builder and a record of these components
pub built_none : {b : PathBuilder} {s : List ℕ} → b ≡ builder_of 0 0 → s ≡ replicate path_size 0 → built b s ≡ built_from []
unfolding built_from
built_none e f = λ i. built (e i) ((f ∙ flat_empty) i)

module _ {b : PathBuilder} {s : List ℕ} (cs : List (List ℕ)) (is : built b s ≡ built_from cs) where
  pub built_total : b.total ≡ total_of cs
  unfolding built_from
  built_total = ap (λ (x : Built). x.builder.total) is

  pub built_count : b.count ≡ length cs
  unfolding built_from
  built_count = ap (λ (x : Built). x.builder.count) is

  pub built_flat : s ≡ path_flat (path_from cs)
  unfolding built_from
  built_flat = ap (λ (x : Built). x.bytes) is

  pub built_path : length cs ≤ max_component_count → total_of cs ≤ max_path_length → path_in s ≡ path_from cs
  built_path few fits = ap path_in built_flat ∙ flat_in cs few fits

  pub built_components : length cs ≤ max_component_count → total_of cs ≤ max_path_length → components_of (path_in s) ≡ cs
  built_components few fits = ap components_of (built_path few fits) ∙ components_of_lem cs

  -- appending a component that fits gives those of one more
  pub appends_built : (c : List ℕ) {g : PathBuilder} {left : List ℕ} → Appends b c s (Ok g) left → length c ≤ max_component_length → length cs < max_component_count → total_of cs + length c ≤ max_path_length → built g left ≡ built_from (cs ++ (c ∷ []))
  appends_built c a short few fits = a.is ∙ ap (λ (x : Built). built_more x.builder c x.bytes) is ∙ built_more_lem cs c few fits

  -- also where the builder is kept beside a refusal
  pub appends_or : (c : List ℕ) (g : Result PathBuilder PathError) {left : List ℕ} → Appends b c s g left → length c ≤ max_component_length → length cs < max_component_count → total_of cs + length c ≤ max_path_length → built (result_unwrap_or g b) left ≡ built_from (cs ++ (c ∷ []))
  appends_or c (Ok g) a short few fits = appends_built c a short few fits
  appends_or c (Err e) a short few fits = absurd (false≢true (appends_grown b c (Err e) a short (omega (arith, built_count)) (omega (arith, built_total))))

-- ---- as the code puts them
put_from : (l c ys : List ℕ) (at n : ℕ) → ys ≡ c → n ≡ length c → put_mid at n l ys ≡ over_from at c l
put_from l c ys at n e long = rw (e, long)

put_some : (at n : ℕ) (l ys : List ℕ) → 1 ≤ at → 1 ≤ length l → 1 ≤ length (put_mid at n l ys)
put_some at n l ys h k = rw (length-append, length-take) (omega arith)

-- the bytes, their lengths and their number, one after the other
pub recorded : (l ys zs : List ℕ) (total count i j n : ℕ) (cs : List (List ℕ)) → 1 ≤ length l → ys ≡ joined cs → i ≡ total_of cs → zs ≡ shorts (map length cs) → j ≡ 2 * length cs → n ≡ count + length cs
    → set (put_mid (lengths_start + 2 * count) j (put_mid (bytes_start + total) i l ys) zs) 0 n ≡ record_more total count cs l
unfolding record_more
recorded l ys zs total count i j n cs some bytes hi lengths hj hn =
    let first = put_from l (joined cs) ys (bytes_start + total) i bytes (hi ∙ sym (length-joined cs)) in
    let m = put_mid (bytes_start + total) i l ys in
    let second = put_from m (shorts (map length cs)) zs (lengths_start + 2 * count) j lengths (hj ∙ sym (length-shorts (map length cs) ∙ rw length-map)) in
    over_one (put_mid (lengths_start + 2 * count) j m zs) n (put_some (lengths_start + 2 * count) j m zs (omega arith) (put_some (bytes_start + total) i l ys (omega arith) some))
    ∙ rw (second, first, hn)

-- one component, its length as the code makes two bytes of it
pub recorded_one : (l ys zs c : List ℕ) (total count i j : ℕ) → 1 ≤ length l → ys ≡ c → i ≡ length c → zs ≡ to_be_bytes w16 (length c) → j ≡ 2
    → set (put_mid (lengths_start + 2 * count) j (put_mid (bytes_start + total) i l ys) zs) 0 (count + 1) ≡ record_more total count (c ∷ []) l
recorded_one l ys zs c total count i j some bytes hi lengths hj =
    recorded l ys zs total count i j (count + 1) (c ∷ []) some (bytes ∙ sym (append-nil c)) (omega arith) (lengths ∙ two (length c)) (omega arith) refl
  where
    two : (v : ℕ) → to_be_bytes w16 v ≡ big_endian 2 v
    two v = let e : v / 1 ≡ v = omega arith in rw e

-- the first components of a path, as they stand in its record
take-shorts : (k n : ℕ) (s : List ℕ) → k ≤ n → take k (shorts_in n s) ≡ shorts_in k s
take-shorts zero n s h = refl
take-shorts (suc k) zero s h = absurd (omega arith)
take-shorts (suc k) (suc n) s h = rw (take-shorts k n (drop 2 s) (omega arith))

module _ (s : List ℕ) (f : Formed (path_in s)) (k : ℕ) (h : k ≤ (path_in s).count) where
  lengths_in : take k (components_of (path_in s)) ≡ cut_up (take k (path_in s).lengths) (path_in s).bytes
  lengths_in = take_cut k (used (path_in s)) (path_in s).bytes ∙ rw (take-take k (path_in s).count (path_in s).lengths h)

  start : start_at (path_in s) k ≡ sum_of (take k (path_in s).lengths)
  start = start_is (path_in s) f k h

  small : sum_of (take k (path_in s).lengths) ≤ max_path_length
  small = omega (arith, start, start_small (path_in s) f k)

  cuts : Cut (take k (path_in s).lengths) (path_in s).bytes
  cuts = cut _ _ (omega (arith, small, f.bytes))

  pub prefix_bytes : (t : ℕ) → t ≡ start_at (path_in s) k → take (bytes_start + t - bytes_start) (drop bytes_start s) ≡ joined (take k (components_of (path_in s)))
  unfolding path_in
  prefix_bytes t e =
      let n : bytes_start + t - bytes_start ≡ sum_of (take k (path_in s).lengths) = omega (arith, start) in
      rw n (sym (ap joined lengths_in ∙ cuts.bytes ∙ take-take (sum_of (take k (path_in s).lengths)) max_path_length (drop bytes_start s) small))

  pub prefix_lengths : AllBytes s → take (1 + 2 * k - 1) (drop 1 s) ≡ shorts (map length (take k (components_of (path_in s))))
  unfolding path_in
  prefix_lengths b =
      let n : 1 + 2 * k - 1 ≡ 2 * k = omega arith in
      let few : k ≤ max_component_count = omega (arith, f.well.count) in
      let there : 2 * k ≤ length (drop 1 s) = rw length-drop (omega (arith, whole_in s f)) in
      rw n (sym (ap (λ (x : List (List ℕ)). shorts (map length x)) lengths_in ∙ ap shorts (cuts.lengths ∙ take-shorts k max_component_count (drop 1 s) few) ∙ shorts_store k (drop 1 s) there (AllBytes-drop 1 s b)))

  -- the builder of them
  pub prefix_built : {t : ℕ} {empty left : List ℕ} → t ≡ start_at (path_in s) k → empty ≡ replicate path_size 0 → left ≡ record_more 0 0 (take k (components_of (path_in s))) empty
      → built (builder_of t k) left ≡ built_from (take k (components_of (path_in s)))
  unfolding built_from
  prefix_built total none more =
      let cs = take k (components_of (path_in s)) in
      let count = prefix_count (path_in s) f k h in
      let bytes = more ∙ ap (record_more 0 0 cs) (none ∙ flat_empty) ∙ more_of [] cs (omega (arith, count, f.well.count)) (omega (arith, start_small (path_in s) f k)) in
      λ i. built (builder_of (total i) (sym count i)) (bytes i)
