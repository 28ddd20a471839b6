-- Records and lists of components: every well-formed record is the record of its components, and back.
use Rattle.codec.proofs.Prelude.{◌≡◌, refl, ap, ◌∙◌, List, [], ◌∷◌, ◌++◌, map, true, ℕ, ◌-◌, ◌≤◌, arith, leb, eqb, leb-true, le-leb, eqb-true, eq-eqb, length, take, drop, replicate, length-append, length-drop, length-map, length-replicate, take_at, drop_at, length-take-le}
use Rattle.codec.specs.Answers.{AllBytes}
use Rattle.codec.specs.Writings.{All}
use Rattle.codec.proofs.Bytes.{AllBytes-drop, AllBytes-take, AllBytes-append, AllBytes-zeros}
use Rattle.path.specs.Record.{Path, sum_of, joined, cut_up, used, components_of, path_from, all_at_most, well_formed, TypedPath}
use Rattle.path.specs.Limits.{max_component_length, max_component_count, max_path_length, total_of, Component, PathOk}
use Rattle.codec.proofs.Tests.{and_left, and_right}
use Rattle.path.proofs.Lists.{all_zeros, zero_rest, cut, cut_joined, length-joined, sum_lengths}

-- ---- a well-formed record, by its parts
pub record WellFormed (p : Path) : Type 0 where
  pub room : length p.bytes ≡ max_path_length
  pub slots : length p.lengths ≡ max_component_count
  pub count : p.count ≤ max_component_count
  pub short : all_at_most max_component_length (used p) ≡ true
  pub total : sum_of (used p) ≤ max_path_length
  pub lengths : all_at_most 0 (drop p.count p.lengths) ≡ true
  pub bytes : all_at_most 0 (drop (sum_of (used p)) p.bytes) ≡ true

pub well_formed_lem : (p : Path) → well_formed p ≡ true → WellFormed p
unfolding well_formed
well_formed_lem p e =
    let f = and_right (eqb (length p.bytes) max_path_length) _ e in
    let e0 = and_right (eqb (length p.lengths) max_component_count) _ f in
    let e1 = and_right (leb p.count max_component_count) _ e0 in
    let e2 = and_right (all_at_most max_component_length (used p)) _ e1 in
    let e3 = and_right (leb (sum_of (used p)) max_path_length) _ e2 in
    record {
      room = eqb-true (length p.bytes) max_path_length (and_left _ _ e);
      slots = eqb-true (length p.lengths) max_component_count (and_left _ _ f);
      count = leb-true p.count max_component_count (and_left _ _ e0);
      short = and_left _ _ e1;
      total = leb-true (sum_of (used p)) max_path_length (and_left _ _ e2);
      lengths = and_left _ _ e3;
      bytes = and_right (all_at_most 0 (drop p.count p.lengths)) _ e3;
    }

pub formed_well : (p : Path) → WellFormed p → well_formed p ≡ true
unfolding well_formed
formed_well p w = rw (eq-eqb _ _ w.room, eq-eqb _ _ w.slots, le-leb p.count max_component_count w.count, w.short, le-leb (sum_of (used p)) max_path_length w.total, w.lengths) w.bytes

-- ---- from a record to its components
most_short : (ls bs : List ℕ) → sum_of ls ≤ length bs → all_at_most max_component_length ls ≡ true → AllBytes bs → All Component (cut_up ls bs)
most_short [] bs h e b = tt
most_short (l ∷ ls) bs h e b =
    let k : length (take l bs) ≡ l = length-take-le l bs (omega arith) in (
      record { short = omega (arith, leb-true l max_component_length (and_left _ _ e)); bytes = AllBytes-take l bs b },
      most_short ls (drop l bs) (simp length-drop (omega arith)) (and_right (leb l max_component_length) _ e) (AllBytes-drop l bs b),
    )

-- the components make the record again, whatever its elements are
pub remade : (p : Path) → length p.bytes ≡ max_path_length → length p.lengths ≡ max_component_count → WellFormed p → path_from (components_of p) ≡ p
unfolding path_from
remade p long lengths w = plain p.count p.lengths p.bytes long lengths w.count w.total w.lengths w.bytes
  where
    plain : (n : ℕ) (ls bs : List ℕ) → length bs ≡ max_path_length → length ls ≡ max_component_count → n ≤ max_component_count → sum_of (take n ls) ≤ max_path_length
        → all_at_most 0 (drop n ls) ≡ true → all_at_most 0 (drop (sum_of (take n ls)) bs) ≡ true
        → path_from (cut_up (take n ls) bs) ≡ record { bytes = bs; lengths = ls; count = n }
    plain n ls bs hb hl hn total zl zb =
        let kl : length (take n ls) ≡ n = length-take-le n ls (omega arith) in
        let r = cut (take n ls) bs (omega arith) in
        let pb : joined (cut_up (take n ls) bs) ++ replicate (max_path_length - total_of (cut_up (take n ls) bs)) 0 ≡ bs = rw (r.bytes, r.total, ← hb) (zero_rest (sum_of (take n ls)) bs zb) in
        let pl : map length (cut_up (take n ls) bs) ++ replicate (max_component_count - length (cut_up (take n ls) bs)) 0 ≡ ls = rw (r.lengths, r.count, kl, ← hl) (zero_rest n ls zl) in
        let pc : length (cut_up (take n ls) bs) ≡ n = r.count ∙ kl in
        λ i. record { bytes = pb i; lengths = pl i; count = pc i }

pub record Apart (p : Path) : Type 0 where
  pub ok : PathOk (components_of p)
  pub made : path_from (components_of p) ≡ p

pub apart_path : (p : Path) → TypedPath p → WellFormed p → Apart p
apart_path p t w =
    let fits : sum_of (used p) ≤ length p.bytes = omega (arith, t.bytes, w.total) in
    let r = cut (used p) p.bytes fits in
    let count : length (components_of p) ≡ p.count = r.count ∙ length-take-le p.count p.lengths (omega (arith, t.lengths, w.count)) in
    record {
      ok = record { total = rw r.total w.total; count = rw count w.count; all = most_short (used p) p.bytes fits w.short t.small };
      made = remade p t.bytes t.lengths w;
    }

-- ---- from components to their record
short_most : (cs : List (List ℕ)) → All Component cs → all_at_most max_component_length (map length cs) ≡ true
short_most [] h = refl
short_most (c ∷ cs) h = rw (le-leb (length c) max_component_length h.0.short) (short_most cs h.1)

AllBytes-joined : (cs : List (List ℕ)) → All Component cs → AllBytes (joined cs)
AllBytes-joined [] h i = omega arith
AllBytes-joined (c ∷ cs) h i = AllBytes-append c (joined cs) h.0.bytes (AllBytes-joined cs h.1) i

pub used_of : (cs : List (List ℕ)) → used (path_from cs) ≡ map length cs
unfolding path_from
used_of cs = take_at (map length cs) _ (length cs) (length-map cs length)

pub count_of : (cs : List (List ℕ)) → (path_from cs).count ≡ length cs
unfolding path_from
count_of cs = refl

pub components_of_lem : (cs : List (List ℕ)) → components_of (path_from cs) ≡ cs
unfolding path_from
components_of_lem cs = rw (take_at (map length cs) (replicate {A = ℕ} (max_component_count - length cs) 0) (length cs) (length-map cs length)) (cut_joined cs _)

pub sum_of_lem : (cs : List (List ℕ)) → sum_of (used (path_from cs)) ≡ total_of cs
sum_of_lem cs = ap sum_of (used_of cs) ∙ sum_lengths cs

pub bytes_long : (cs : List (List ℕ)) → total_of cs ≤ max_path_length → length (path_from cs).bytes ≡ max_path_length
unfolding path_from
bytes_long cs h = simp (length-append, length-replicate, length-joined cs) (omega arith)

pub lengths_long : (cs : List (List ℕ)) → length cs ≤ max_component_count → length (path_from cs).lengths ≡ max_component_count
unfolding path_from
lengths_long cs h = simp (length-append, length-replicate, length-map) (omega arith)

pub record Made (cs : List (List ℕ)) : Type 0 where
  pub typed : TypedPath (path_from cs)
  pub well : WellFormed (path_from cs)

pub made_path : (cs : List (List ℕ)) → PathOk cs → Made cs
unfolding path_from
made_path cs h =
    let total = h.total in
    let count = h.count in
    let lj = length-joined cs in
    let lm : length (map length cs) ≡ length cs = length-map cs length in
    let tl : take (length cs) (map length cs ++ replicate (max_component_count - length cs) 0) ≡ map length cs = take_at (map length cs) (replicate (max_component_count - length cs) 0) (length cs) lm in
    let dl : drop (length cs) (map length cs ++ replicate (max_component_count - length cs) 0) ≡ replicate (max_component_count - length cs) 0 = drop_at (map length cs) (replicate (max_component_count - length cs) 0) (length cs) lm in
    let db : drop (total_of cs) (joined cs ++ replicate (max_path_length - total_of cs) 0) ≡ replicate (max_path_length - total_of cs) 0 = drop_at (joined cs) (replicate (max_path_length - total_of cs) 0) (total_of cs) lj in
    record {
      typed = record {
        bytes = bytes_long cs h.total;
        lengths = lengths_long cs h.count;
        small = AllBytes-append (joined cs) (replicate (max_path_length - total_of cs) 0) (AllBytes-joined cs h.all) (AllBytes-zeros (max_path_length - total_of cs));
      };
      well = record {
        room = bytes_long cs h.total;
        slots = lengths_long cs h.count;
        count = h.count;
        short = rw tl (short_most cs h.all);
        total = rw (tl, sum_lengths cs) h.total;
        lengths = rw dl (all_zeros (max_component_count - length cs));
        bytes = rw (tl, sum_lengths cs, db) (all_zeros (max_path_length - total_of cs));
      };
    }

-- what every reader of a path gives
pub well_made : (cs : List (List ℕ)) → PathOk cs → TypedPath (path_from cs) × (well_formed (path_from cs) ≡ true)
well_made cs ok = let m = made_path cs ok in (m.typed, formed_well (path_from cs) m.well)
