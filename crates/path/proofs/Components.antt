-- The components of a well-formed record, one by one: where each starts, how long it is, and what is left after it.
use Rattle.codec.proofs.Prelude.{◌≡◌, sym, ◌∙◌, List, ◌∷◌, true, ℕ, ◌+◌, ◌-◌, ◌≤◌, ◌<◌, add-one, arith, leb, eqb, leb-true, le-leb, eqb-true, eq-eqb, length, take, drop, get_or, length-drop, drop-cons, drop-drop, length-take-le, get_or-take, take-suc, take-take, take_all}
use Rattle.path.specs.Record.{Path, sum_of, used, components_of, sized, well_formed, TypedPath, length_at, start_at}
use Rattle.path.specs.Limits.{max_component_count, max_path_length, total_of}
use Rattle.path.proofs.Lists.{sum_snoc, sum_take, cut, drop_cut}
use Rattle.path.proofs.Limits.{total_split}
use Rattle.codec.proofs.Tests.{and_left, and_right}
use Rattle.path.proofs.Record.{well_formed_lem}

-- sizes within the limits
pub record Fits (p : Path) : Type 0 where
  pub count : p.count ≤ max_component_count
  pub total : sum_of (used p) ≤ max_path_length

-- what a function knows of a path whose sizes it tested
pub record Formed (p : Path) : Type 0 where
  pub bytes : length p.bytes ≡ max_path_length
  pub lengths : length p.lengths ≡ max_component_count
  pub well : Fits p

pub formed : {p : Path} → TypedPath p → well_formed p ≡ true → Formed p
formed {p} t e = let w = well_formed_lem p e in record { bytes = t.bytes; lengths = t.lengths; well = record { count = w.count; total = w.total } }

-- the same of parts that are lent, and of sizes alone
pub parts_formed : {p : Path} → well_formed p ≡ true → Formed p
parts_formed {p} e = let w = well_formed_lem p e in record { bytes = w.room; lengths = w.slots; well = record { count = w.count; total = w.total } }

pub sized_formed : {p : Path} → sized p ≡ true → Formed p
unfolding sized
sized_formed {p} e =
    let f = and_right (eqb (length p.bytes) max_path_length) _ e in
    let g = and_right (eqb (length p.lengths) max_component_count) _ f in
    record {
      bytes = eqb-true (length p.bytes) max_path_length (and_left _ _ e);
      lengths = eqb-true (length p.lengths) max_component_count (and_left _ _ f);
      well = record {
        count = leb-true p.count max_component_count (and_left _ _ g);
        total = leb-true (sum_of (used p)) max_path_length (and_right (leb p.count max_component_count) _ g);
      };
    }

pub well_sized : (p : Path) → well_formed p ≡ true → sized p ≡ true
unfolding sized
well_sized p e =
    let f = parts_formed e in
    rw (eq-eqb _ _ f.bytes, eq-eqb _ _ f.lengths, le-leb p.count max_component_count f.well.count) (le-leb (sum_of (used p)) max_path_length f.well.total)

-- the bytes of the i-th component
abbrev pub bytes_at : Path → ℕ → List ℕ
bytes_at p i = take (length_at p i) (drop (start_at p i) p.bytes)

module _ (p : Path) (f : Formed p) where
  pub used_long : length (used p) ≡ p.count
  used_long = length-take-le p.count p.lengths (omega (arith, f.lengths, f.well.count))

  fits_bytes : sum_of (used p) ≤ length p.bytes
  fits_bytes = omega (arith, f.bytes, f.well.total)

  pub count_is : length (components_of p) ≡ p.count
  count_is = (cut (used p) p.bytes fits_bytes).count ∙ used_long

  pub whole : take p.count (components_of p) ≡ components_of p
  whole = take_all p.count (components_of p) (omega (arith, count_is))

  pub total_is : total_of (components_of p) ≡ sum_of (used p)
  total_is = (cut (used p) p.bytes fits_bytes).total

  pub total_small : total_of (components_of p) ≤ max_path_length
  total_small = omega (arith, total_is, f.well.total)

  pub rest_count : (k : ℕ) → length (drop k (components_of p)) ≡ p.count - k
  rest_count k = length-drop k (components_of p) ∙ rw count_is

  pub rest_total : (k : ℕ) → total_of (drop k (components_of p)) ≡ sum_of (drop k (used p))
  rest_total k =
      let start = sum_of (take k (used p)) in
      rw (drop_cut k (used p) p.bytes) (cut (drop k (used p)) (drop start p.bytes) (rw length-drop (omega (arith, sum_take k (used p), fits_bytes)))).total

  pub rest_small : (k : ℕ) → total_of (drop k (components_of p)) ≤ max_path_length
  rest_small k = omega (arith, total_split k (components_of p), total_small)

  pub prefix_count : (k : ℕ) → k ≤ p.count → length (take k (components_of p)) ≡ k
  prefix_count k h = length-take-le k (components_of p) (omega (arith, count_is))

  start_sum : (k : ℕ) → start_at p k ≡ sum_of (take k (used p))
  start_sum k = omega (arith, total_split k (components_of p), rest_total k, total_is, sum_take k (used p))

  -- where a component starts, by the record's own lengths
  pub start_is : (k : ℕ) → k ≤ p.count → start_at p k ≡ sum_of (take k p.lengths)
  start_is k h = start_sum k ∙ rw (take-take k p.count p.lengths h)

  pub start_small : (k : ℕ) → start_at p k ≤ max_path_length
  start_small k = omega (arith, total_split k (components_of p), total_small)

  module _ (i : ℕ) (h : i < p.count) where
    in_use : i < length (used p)
    in_use = omega (arith, used_long)

    pub length-used : get_or (used p) i 0 ≡ length_at p i
    unfolding length_at
    length-used = get_or-take p.count p.lengths i 0 h

    pub next_start : start_at p (i + 1) ≡ start_at p i + length_at p i
    next_start = start_sum (i + 1) ∙ rw (add-one, take-suc (used p) i 0 in_use, sum_snoc, length-used, ← (start_sum i))

    pub ends : start_at p i + length_at p i ≤ max_path_length
    ends = omega (arith, next_start, start_small (i + 1))

    pub bytes_at_long : length (bytes_at p i) ≡ length_at p i
    bytes_at_long = length-take-le (length_at p i) (drop (start_at p i) p.bytes) (rw length-drop (omega (arith, ends, f.bytes)))

    -- the components from the i-th on begin with it
    pub component : drop i (components_of p) ≡ bytes_at p i ∷ drop (i + 1) (components_of p)
    component =
        let next : sum_of (take (i + 1) (used p)) ≡ sum_of (take i (used p)) + length_at p i = sym (start_sum (i + 1)) ∙ next_start ∙ rw (start_sum i) in
        rw (drop_cut i (used p) p.bytes, drop_cut (i + 1) (used p) p.bytes, next, start_sum i, drop-cons (used p) i 0 in_use, length-used, add-one i, drop-drop)

    -- the part of the record's bytes that the code takes
    pub part_bytes : (at : ℕ) → at ≡ start_at p i → take (at + length_at p i - at) (drop at p.bytes) ≡ bytes_at p i
    part_bytes at e =
        let n : at + length_at p i - at ≡ length_at p i = omega arith in
        rw (n, e)
