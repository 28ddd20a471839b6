-- 3d ranges as flat bytes: there and back.
use Rattle.codec.proofs.Prelude.{◌≡◌, refl, sym, ap, ◌∙◌, List, [], ◌∷◌, ◌++◌, append_assoc, Bool, true, false, cond, ◌&&◌, ℕ, suc, ◌+◌, arith, eqb, get_or, length, take, drop, length-append, length-drop, take_at, drop_at, drop-drop, take-add}
use Rattle.std.specs.Prelude.{Some, None}
use Rattle.codec.specs.Answers.{AllBytes}
use Rattle.codec.specs.Header.{bit}
use Rattle.codec.proofs.Bytes.{AllBytes-drop}
use Rattle.codec.proofs.Tests.{and_left, and_right}
use Rattle.path.specs.Record.{Path, path_from, well_formed}
use Rattle.range_3d.specs.declared.Range3dHead.{Range3dHead}
use Rattle.range_3d.specs.Range3d.{open_end}
use Rattle.range_3d.specs.Record.{Range3d, head_of, range_with, well_formed_range3d, TypedRange3d}
use Rattle.path.specs.Flat.{path_size, path_flat, path_in}
use Rattle.flat.specs.Optional.{option_flat, option_marked, option_in}
use Rattle.flat.specs.PathRecord.{path_if}
use Rattle.flat.specs.Times.{times_flat, times_marked, times_in}
use Rattle.flat.specs.RangeRecord.{range_size, range_path_open, range_path_end, range_times_start, subspaces_flat, range_flat, range_stored, range_marked, subspaces_in, range_in}
use Rattle.path.proofs.Growing.{flat_empty}
use Rattle.path.proofs.Loads.{path_long, path_loads, path_stores}
use Rattle.flat.proofs.Optional.{option_long, option_marked_lem, option_loads, option_stores}
use Rattle.flat.proofs.PathLaws.{unmarked, path_within_lem, either_unmarked}
use Rattle.flat.proofs.TimesLaws.{times_marked_lem, times_loads, times_stores, times_long, three}

-- where the parts stand: an id and what may be an id, a path and what may be a path, and the times
module _ (a b p q t : List ℕ) (la : length a ≡ 32) (lb : length b ≡ 33) (lp : length p ≡ path_size) (lq : length q ≡ suc path_size) where
  abbrev range_parts : List ℕ
  range_parts = (a ++ b) ++ ((p ++ q) ++ t)

  start_part : take 32 range_parts ≡ a
  start_part = rw append_assoc (take_at a (b ++ ((p ++ q) ++ t)) 32 la)

  end_on : drop 32 range_parts ≡ b ++ ((p ++ q) ++ t)
  end_on = rw append_assoc (drop_at a (b ++ ((p ++ q) ++ t)) 32 la)

  paths_on : drop 65 range_parts ≡ p ++ (q ++ t)
  paths_on = sym (drop-drop 33 32 range_parts) ∙ rw end_on (drop_at b ((p ++ q) ++ t) 33 lb ∙ append_assoc p q t)

  open_on : drop range_path_open range_parts ≡ q ++ t
  open_on = sym (drop-drop path_size 65 range_parts) ∙ rw paths_on (drop_at p (q ++ t) path_size lp)

  times_on : drop range_times_start range_parts ≡ t
  times_on = sym (drop-drop (suc path_size) range_path_open range_parts) ∙ rw open_on (drop_at q t (suc path_size) lq)

module _ (r : Range3d) (h : TypedRange3d r) where
  id_long : length (option_flat 32 (λ (id : List ℕ). id) r.subspaces.end) ≡ 33
  id_long = option_long 32 (λ id. id) (take 32) r.subspaces.end (λ id e. (rw e at h.subspaces.end).0)

  end_long : length (option_flat path_size path_flat r.paths.end) ≡ suc path_size
  end_long = option_long path_size path_flat path_in r.paths.end (λ p e. path_long p (rw e at h.paths.end))

pub range_long : (r : Range3d) → TypedRange3d r → length (range_flat r) ≡ range_size
unfolding range_flat
range_long r h =
    rw (
      length-append,
      length-append,
      length-append,
      length-append,
      id_long r h,
      path_long r.paths.start h.paths.start,
      end_long r h,
      times_long r.times,
    ) (omega (arith, h.subspaces.start.0))

pub range_loads : (r : Range3d) → TypedRange3d r → well_formed_range3d r ≡ true → range_in (range_flat r) ≡ r
unfolding range_flat range_in range_marked path_in
range_loads r h w =
    let a = r.subspaces.start in
    let b = option_flat 32 (λ (id : List ℕ). id) r.subspaces.end in
    let p = path_flat r.paths.start in
    let q = option_flat path_size path_flat r.paths.end in
    let t = times_flat r.times in
    let la = h.subspaces.start.0 in
    let lb = id_long r h in
    let lp = path_long r.paths.start h.paths.start in
    let lq = end_long r h in
    let start = and_left (well_formed r.paths.start) _ w in
    let end = and_right (well_formed r.paths.start) _ w in
    rw (
      end_on a b p q t la lb lp lq,
      option_marked_lem 32 (λ (id : List ℕ). id) (take 32) r.subspaces.end ((p ++ q) ++ t),
      open_on a b p q t la lb lp lq,
      option_marked_lem path_size path_flat path_in r.paths.end t,
      times_on a b p q t la lb lp lq,
      times_marked_lem r.times,
      start_part a b p q t la lb lp lq,
      option_loads 32 (λ (id : List ℕ). id) (take 32) r.subspaces.end ((p ++ q) ++ t) (λ id e. take_at id ((p ++ q) ++ t) 32 (rw e at h.subspaces.end).0),
      paths_on a b p q t la lb lp lq,
      path_loads r.paths.start (q ++ t) h.paths.start start,
      option_loads path_size path_flat path_in r.paths.end t (λ x e. path_loads x t (rw e at h.paths.end) (rw e at end)),
      times_loads r.times h.times,
    )

record Marks (s : List ℕ) : Type 0 where
  subspaces : option_marked 32 (drop 32 s) ≡ true
  paths : option_marked path_size (drop range_path_open s) ≡ true
  times : times_marked (drop range_times_start s) ≡ true

marks : (s : List ℕ) → range_marked s ≡ true → Marks s
unfolding range_marked
marks s e =
    let f = and_right (option_marked 32 (drop 32 s)) (option_marked path_size (drop range_path_open s) && times_marked (drop range_times_start s)) e in
    record {
      subspaces = and_left (option_marked 32 (drop 32 s)) (option_marked path_size (drop range_path_open s) && times_marked (drop range_times_start s)) e;
      paths = and_left (option_marked path_size (drop range_path_open s)) (times_marked (drop range_times_start s)) f;
      times = and_right (option_marked path_size (drop range_path_open s)) (times_marked (drop range_times_start s)) f;
    }

pub range_stores : (s : List ℕ) → length s ≡ range_size → AllBytes s → well_formed_range3d (range_in s) ≡ true → range_flat (range_in s) ≡ s
unfolding range_flat range_in path_in
range_stores s long b w = go (range_marked s) refl (and_left (well_formed (range_in s).paths.start) _ w)
  where
    stored : Bool → List ℕ
    stored ok = subspaces_flat (subspaces_in s) ++ ((path_flat (path_if ok (drop 65 s)) ++ option_flat path_size path_flat (option_in path_in (drop range_path_open s))) ++ times_flat (times_in (drop range_times_start s)))

    -- the five parts, one after another
    whole : (take 32 s ++ take 33 (drop 32 s)) ++ ((take path_size (drop 65 s) ++ take (suc path_size) (drop range_path_open s)) ++ drop range_times_start s) ≡ s
    whole =
        let ids : take 32 s ++ take 33 (drop 32 s) ≡ take 65 s = sym (take-add 32 33 s) in
        let d : drop range_path_open s ≡ drop path_size (drop 65 s) = sym (drop-drop path_size 65 s) in
        let paths : take path_size (drop 65 s) ++ take (suc path_size) (drop range_path_open s) ≡ take (path_size + suc path_size) (drop 65 s) = rw d (sym (take-add path_size (suc path_size) (drop 65 s))) in
        rw (ids, paths) (three s 65 (path_size + suc path_size))

    fields : Marks s → stored true ≡ s
    fields m =
        let id = option_stores 32 (λ (x : List ℕ). x) (take 32) (drop 32 s) (rw length-drop (omega arith)) m.subspaces refl in
        let p = path_stores (drop 65 s) (rw length-drop (omega arith)) (AllBytes-drop 65 s b) in
        let d : drop 1 (drop range_path_open s) ≡ drop range_path_end s = drop-drop 1 range_path_open s in
        let last = path_stores (drop range_path_end s) (rw length-drop (omega arith)) (AllBytes-drop range_path_end s b) in
        let q = option_stores path_size path_flat path_in (drop range_path_open s) (rw length-drop (omega arith)) m.paths (rw d last) in
        let t = times_stores (drop range_times_start s) (rw length-drop (omega arith)) (AllBytes-drop range_times_start s b) m.times in
        rw (id, p, q, t) whole

    go : (ok : Bool) → range_marked s ≡ ok → well_formed (path_if ok (drop 65 s)) ≡ true → stored ok ≡ s
    go true e f = fields (marks s e)
    go false e f = absurd (unmarked (drop 65 s) f)

-- the first path of a 3d range that is marked
pub range_path : (s : List ℕ) → range_marked s ≡ true → path_in (drop 65 s) ≡ path_if (range_marked s) (drop 65 s)
unfolding path_in
range_path s m = rw m

-- a 3d range that is marked, by its head and the records of its paths
pub range_lent : (s p q : List ℕ) → (p ≡ take path_size (drop 65 s)) × (length p ≡ path_size) → (q ≡ take path_size (drop range_path_end s)) × (length q ≡ path_size) → range_marked s ≡ true → range_with (head_of (range_in s)) (path_in p) (path_in q) ≡ range_in s
unfolding range_in
range_lent s p q e f m =
    let start : path_in p ≡ path_if (range_marked s) (drop 65 s) = path_within_lem p (drop 65 s) e ∙ range_path s m in
    let end : path_in q ≡ path_in (drop 1 (drop range_path_open s)) = path_within_lem q (drop range_path_end s) f ∙ ap path_in (sym (drop-drop 1 range_path_open s)) in
    λ i. record { subspaces = subspaces_in s; paths = record { start = start i; end = named (eqb (get_or (drop range_path_open s) 0 0) 1) end i }; times = times_in (drop range_times_start s) }
  where
    named : (missing : Bool) {x y : Path} → x ≡ y → cond (open_end (cond missing None (Some y))) None (Some x) ≡ cond missing None (Some y)
    named true e = refl
    named false e = ap Some e

-- a head and two paths as they are stored are the 3d range of them, where beside the mark of an open end the second is empty
pub stored_flat : (h : Range3dHead) (start end : Path) → (h.end_open ≡ true → end ≡ path_from []) → range_stored h start end ≡ range_flat (range_with h start end)
unfolding range_stored range_flat
stored_flat h start end empty = ap (λ (q : List ℕ). subspaces_flat h.subspaces ++ ((path_flat start ++ q) ++ times_flat h.times)) (marked h.end_open empty)
  where
    marked : (missing : Bool) → (missing ≡ true → end ≡ path_from []) → bit missing ∷ path_flat end ≡ option_flat path_size path_flat (cond missing None (Some end))
    marked true e = ap (λ (l : List ℕ). 1 ∷ l) (ap path_flat (e refl) ∙ sym flat_empty)
    marked false e = refl

range_marks : (s : List ℕ) → range_marked s ≡ false → well_formed_range3d (range_in s) ≡ true → ⊥
unfolding range_in
range_marks s m w = unmarked (drop 65 s) (rw m at (and_left (well_formed (range_in s).paths.start) _ w))

pub range_unmarked : (s : List ℕ) → range_marked s ≡ false → well_formed_range3d (range_in s) ≡ false
range_unmarked s m = go (well_formed_range3d (range_in s)) refl
  where
    go : (b : Bool) → well_formed_range3d (range_in s) ≡ b → b ≡ false
    go true e = absurd (range_marks s m e)
    go false e = refl

pub ranges_unmarked : (s t : List ℕ) → (range_marked s && range_marked t) ≡ false → (well_formed_range3d (range_in s) && well_formed_range3d (range_in t)) ≡ false
ranges_unmarked = either_unmarked range_marked (λ s. well_formed_range3d (range_in s)) range_unmarked
