-- The components of a record from the i-th on, as they are written.
use Rattle.codec.proofs.Prelude.{◌≡◌, sym, ap, ◌∙◌, List, [], ◌++◌, le-leb, ℕ, suc, ◌+◌, ◌-◌, ◌≤◌, ◌<◌, arith, put_mid, length, take, drop, length-append, length-drop, drop_of_length-le}
use Rattle.codec.specs.Answers.{wrote}
use Rattle.codec.specs.Format.{over, length_answer}
use Rattle.codec.proofs.Lending.{length_allowed, to_end, put_end, put_end_long, over_turn}
use Rattle.compact_u64.specs.Number.{standalone_bytes}
use Rattle.path.specs.Record.{Path, sum_of, components_of, sized, length_at, start_at}
use Rattle.path.specs.inside.Sizes.{Leads}
use Rattle.path.specs.Limits.{max_path_length, total_of}
use Rattle.path.specs.Flat.{path_in, lent}
use Rattle.path.proofs.Components.{Formed, sized_formed, bytes_at, bytes_at_long, count_is, rest_count, rest_small, next_start, ends, component}
use Rattle.path.proofs.Records.{lent_known, span_rest}
use Rattle.path_suffix.specs.inside.Lengths.{max_suffix_length}
use Rattle.path_suffix.specs.Suffix.{sizes_from, sizes_of, sized_bytes, component_bytes, suffix_bytes, suffix_by}
use Rattle.path_suffix.proofs.Suffix.{suffix_short}
use Rattle.path_suffix.proofs.Components.{bytes_cons}
use Rattle.path_suffix.proofs.Writing.{suffix_parts}

module _ (p : Path) (f : Formed p) where
  pub all_short_lem : (k : ℕ) → length (suffix_bytes (drop k (components_of p))) ≤ max_suffix_length
  all_short_lem k = omega (arith, suffix_short (drop k (components_of p)), rest_count p f k, rest_small p f k, f.well.count)

  pub some_short : (k : ℕ) → length (component_bytes (drop k (components_of p))) ≤ max_suffix_length
  some_short k = omega (arith, suffix_short (drop k (components_of p)), suffix_parts (drop k (components_of p)), rest_count p f k, rest_small p f k, f.well.count)

  pub none_left : (k : ℕ) → p.count ≤ k → component_bytes (drop k (components_of p)) ≡ []
  unfolding component_bytes
  none_left k h =
      let past : length (components_of p) ≤ k = omega (arith, count_is p f) in
      rw (drop_of_length-le (components_of p) past)

  module _ (i : ℕ) (h : i < p.count) where
    pub sized_long : length (sized_bytes (bytes_at p i)) ≡ length (standalone_bytes (length_at p i)) + length_at p i
    sized_long = length-append (standalone_bytes (length (bytes_at p i))) (bytes_at p i) ∙ rw (bytes_at_long p f i h)

    pub one_more : i + 1 < p.count → component_bytes (drop i (components_of p)) ≡ sized_bytes (bytes_at p i) ++ component_bytes (drop (i + 1) (components_of p))
    one_more more =
        let rest = drop (i + 1) (components_of p) in
        let n : length rest ≡ suc (p.count - (i + 1) - 1) = rest_count p f (i + 1) ∙ omega arith in
        rw (component p f i h) (bytes_cons (bytes_at p i) rest _ n)

    pub last_one : p.count ≤ i + 1 → component_bytes (drop i (components_of p)) ≡ bytes_at p i
    unfolding component_bytes
    last_one last =
        let past : length (components_of p) ≤ i + 1 = omega (arith, count_is p f) in
        rw (component p f i h, drop_of_length-le (components_of p) past)

    pub one_more_long : i + 1 < p.count → length (component_bytes (drop i (components_of p))) ≡ length (standalone_bytes (length_at p i)) + length_at p i + length (component_bytes (drop (i + 1) (components_of p)))
    one_more_long more = ap length (one_more more) ∙ length-append (sized_bytes (bytes_at p i)) (component_bytes (drop (i + 1) (components_of p))) ∙ rw sized_long

    pub last_one_long : p.count ≤ i + 1 → length (component_bytes (drop i (components_of p))) ≡ length_at p i
    last_one_long last = ap length (last_one last) ∙ bytes_at_long p f i h

-- the sizes of a suffix, from the count and the sum of the lengths that were read
pub suffix_sizes : (s : List ℕ) (f : Formed (path_in s)) (k n t : ℕ) → n ≡ lent 0 (λ p. p.count) s → t ≡ lent 0 (λ p. sum_of (take (n - k) (drop k p.lengths))) s
    → sizes_from t (n - k) ≡ sizes_of (drop k (components_of (path_in s)))
suffix_sizes s f k n t en et =
    let count : n ≡ (path_in s).count = en ∙ lent_known s f 0 (λ p. p.count) in
    let total : t ≡ total_of (drop k (components_of (path_in s))) = et ∙ span_rest s f k n count in
    let left : n - k ≡ length (drop k (components_of (path_in s))) = rw count (sym (rest_count (path_in s) f k)) in
    rw (total, left)

-- the length of a suffix that may be written
pub suffix_told : {p : Path} {k n : ℕ} → Leads p k → n ≡ length (suffix_bytes (drop k (components_of p))) → wrote n ≡ length_answer (suffix_by sized k) p
suffix_told {p} {k} {n} leads e = length_allowed (suffix_by sized k) p n (rw (leads.fits, le-leb k p.count leads.there)) e

-- ---- components written one by one: those from the k-th on and before the i-th stand before `at`, and writing the others there writes all
pub record Turn (p : Path) (k n : ℕ) (before after : List ℕ) (from at i : ℕ) : Type 0 where
  pub more : i < n
  pub start : from ≡ start_at p i
  pub long : length after ≡ length before
  pub room : at + length (component_bytes (drop i (components_of p))) ≡ length (component_bytes (drop k (components_of p)))
  pub same : over (component_bytes (drop k (components_of p))) before ≡ take at after ++ over (component_bytes (drop i (components_of p))) (drop at after)

-- by what the code knows of the record: its count, and the length of the component whose turn it is
module _ (s : List ℕ) {k n : ℕ} (leads : Leads (path_in s) k) (count : n ≡ lent 0 (λ p. p.count) s) {before after : List ℕ} {from at i : ℕ} (t : Turn (path_in s) k n before after from at i) {m : ℕ} (len : m ≡ lent 0 (λ p. length_at p i) s) where
  here : Formed (path_in s)
  here = sized_formed leads.fits

  counted : n ≡ (path_in s).count
  counted = count ∙ lent_known s here 0 (λ p. p.count)

  there : i < (path_in s).count
  there = omega (arith, counted, t.more)

  size : m ≡ length_at (path_in s) i
  size = len ∙ lent_known s here 0 (λ p. length_at p i)

  pub turn_ends : from + m ≤ max_path_length
  turn_ends = omega (arith, t.start, size, ends (path_in s) here i there)

  -- the part of the bytes that the code takes
  module _ {bytes : List ℕ} (source : bytes ≡ lent [] (λ p. p.bytes) s) where
    pub turn_inside : from + m ≤ length bytes
    turn_inside = omega (arith, turn_ends, ap length (source ∙ lent_known s here [] (λ p. p.bytes)), here.bytes)

    pub turn_part : take (from + m - from) (drop from bytes) ≡ bytes_at (path_in s) i
    turn_part = let d : from + m - from ≡ m = omega arith in rw (d, source, lent_known s here [] (λ p. p.bytes), t.start, size)

  module _ (room : length (component_bytes (drop k (components_of (path_in s)))) ≤ length before) where
    -- one more after its length
    module _ (more : i + 1 < n) where
      all : component_bytes (drop i (components_of (path_in s))) ≡ sized_bytes (bytes_at (path_in s) i) ++ component_bytes (drop (i + 1) (components_of (path_in s)))
      all = one_more (path_in s) here i there (omega (arith, counted))

      whole : length (component_bytes (drop i (components_of (path_in s)))) ≡ length (sized_bytes (bytes_at (path_in s) i)) + length (component_bytes (drop (i + 1) (components_of (path_in s))))
      whole = ap length all ∙ length-append (sized_bytes (bytes_at (path_in s) i)) (component_bytes (drop (i + 1) (components_of (path_in s))))

      pub turn_room : length (sized_bytes (bytes_at (path_in s) i)) ≤ length (take (length after - at) (drop at after))
      turn_room = rw (to_end, length-drop) (omega (arith, t.room, t.long, whole))

      pub turn_next : {w : ℕ} {ys : List ℕ} → (w ≡ length (sized_bytes (bytes_at (path_in s) i))) × (ys ≡ over (sized_bytes (bytes_at (path_in s) i)) (take (length after - at) (drop at after)))
          → length ys ≡ length (take (length after - at) (drop at after)) → Turn (path_in s) k n before (put_mid at (length after - at) after ys) (from + m) (at + w) (i + 1)
      turn_next {w} {ys} e kept =
          let inside : at ≤ length after = omega (arith, t.room, t.long, whole) in
          let is = rw to_end at e.1 in
          record {
            more = more;
            start = omega (arith, t.start, size, next_start (path_in s) here i there);
            long = put_end_long at after ys inside kept ∙ t.long;
            room = omega (arith, t.room, e.0, whole);
            same = t.same ∙ rw (put_end at after ys, is, e.0, all) (over_turn after (sized_bytes (bytes_at (path_in s) i)) (component_bytes (drop (i + 1) (components_of (path_in s)))) at inside);
          }

    -- the last one
    module _ (last : n ≤ i + 1) where
      pub turn_fits : at + m ≤ length after
      turn_fits = omega (arith, t.room, t.long, last_one_long (path_in s) here i there (omega (arith, counted)), size)

      pub turn_last : {w : ℕ} {ys : List ℕ} → w ≡ m → ys ≡ bytes_at (path_in s) i → put_mid at w after ys ≡ over (component_bytes (drop k (components_of (path_in s)))) before
      turn_last long e = put_part _ (long ∙ size ∙ sym (bytes_at_long (path_in s) here i there)) e ∙ sym (t.same ∙ rw (last_one (path_in s) here i there (omega (arith, counted))))
        where
          put_part : {w : ℕ} {ys : List ℕ} (c : List ℕ) → w ≡ length c → ys ≡ c → put_mid at w after ys ≡ take at after ++ over c (drop at after)
          put_part c long e = rw (e, long)
