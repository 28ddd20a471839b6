-- Areas as flat bytes: there and back.
use Rattle.codec.proofs.Prelude.{◌≡◌, refl, ap, ◌∙◌, List, ◌++◌, Bool, true, false, ◌&&◌, ℕ, arith, length, take, drop, length-append, length-drop, take_at, drop_at}
use Rattle.codec.specs.Answers.{AllBytes}
use Rattle.codec.proofs.Bytes.{AllBytes-drop}
use Rattle.codec.proofs.Tests.{and_left, and_right}
use Rattle.path.specs.Record.{well_formed}
use Rattle.std.specs.Prelude.{Option}
use Rattle.grouping.specs.Area.{TypedSubspace}
use Rattle.grouping.specs.Record.{Area, head_of, area_with, well_formed_area, TypedArea}
use Rattle.path.specs.Flat.{path_size, path_flat, path_in}
use Rattle.flat.specs.PathRecord.{path_if}
use Rattle.flat.specs.Times.{times_flat, times_marked, times_in}
use Rattle.flat.specs.AreaRecord.{area_size, area_times_start, subspace_flat, area_flat, area_marked, area_in}
use Rattle.path.proofs.Loads.{path_long, path_loads, path_stores}
use Rattle.flat.specs.Optional.{option_marked, option_in}
use Rattle.flat.proofs.Optional.{option_long, option_marked_lem, option_loads, option_stores}
use Rattle.flat.proofs.PathLaws.{unmarked, path_within_lem, either_unmarked}
use Rattle.flat.proofs.TimesLaws.{times_marked_lem, times_loads, times_stores, times_long, drop_two, three}

pub subspace_long : (s : Option (List ℕ)) → TypedSubspace s → length (subspace_flat s) ≡ 33
subspace_long s t = option_long 32 (λ id. id) (take 32) s (λ id e. (rw e at t).0)

pub area_long : (a : Area) → TypedArea a → length (area_flat a) ≡ area_size
unfolding area_flat
area_long a t = rw (length-append, length-append, subspace_long a.subspace t.subspace, path_long a.path t.path, times_long a.times) (omega arith)

pub area_loads : (a : Area) → TypedArea a → well_formed_area a ≡ true → area_in (area_flat a) ≡ a
unfolding area_flat area_in area_marked path_in
area_loads a t w =
    let path = path_flat a.path in
    let times = times_flat a.times in
    let mark = subspace_flat a.subspace in
    let long = subspace_long a.subspace t.subspace in
    let p : drop 33 (mark ++ (path ++ times)) ≡ path ++ times = drop_at mark (path ++ times) 33 long in
    let q : drop area_times_start (mark ++ (path ++ times)) ≡ times = drop_two mark path times 33 path_size long (path_long a.path t.path) in
    rw (
      option_marked_lem 32 (λ id. id) (take 32) a.subspace (path ++ times),
      q,
      times_marked_lem a.times,
      option_loads 32 (λ id. id) (take 32) a.subspace (path ++ times) (λ id e. take_at id (path ++ times) 32 (rw e at t.subspace).0),
      p,
      path_loads a.path times t.path w,
      times_loads a.times t.times,
    )

pub area_stores : (s : List ℕ) → length s ≡ area_size → AllBytes s → well_formed_area (area_in s) ≡ true → area_flat (area_in s) ≡ s
unfolding area_flat area_in area_marked path_in
area_stores s long b w = go (option_marked 32 s && times_marked (drop area_times_start s)) refl w
  where
    stored : Bool → List ℕ
    stored ok = subspace_flat (option_in (take 32) s) ++ (path_flat (path_if ok (drop 33 s)) ++ times_flat (times_in (drop area_times_start s)))

    fields : option_marked 32 s ≡ true → times_marked (drop area_times_start s) ≡ true → stored true ≡ s
    fields m q =
        let mark = option_stores 32 (λ id. id) (take 32) s (omega arith) m refl in
        let path = path_stores (drop 33 s) (rw length-drop (omega arith)) (AllBytes-drop 33 s b) in
        let times = times_stores (drop area_times_start s) (rw length-drop (omega arith)) (AllBytes-drop area_times_start s b) q in
        rw (mark, path, times) (three s 33 path_size)

    go : (ok : Bool) → (option_marked 32 s && times_marked (drop area_times_start s)) ≡ ok → well_formed (path_if ok (drop 33 s)) ≡ true → stored ok ≡ s
    go true e f = fields (and_left (option_marked 32 s) (times_marked (drop area_times_start s)) e) (and_right (option_marked 32 s) (times_marked (drop area_times_start s)) e)
    go false e f = absurd (unmarked (drop 33 s) f)

-- the path of an area that is marked
pub area_path : (s : List ℕ) → area_marked s ≡ true → path_in (drop 33 s) ≡ path_if (area_marked s) (drop 33 s)
unfolding path_in
area_path s m = rw m

-- an area that is marked, by its head and the record of its path
pub area_lent : (s p : List ℕ) → (p ≡ take path_size (drop 33 s)) × (length p ≡ path_size) → area_marked s ≡ true → area_with (head_of (area_in s)) (path_in p) ≡ area_in s
unfolding area_in
area_lent s p e m = ap (area_with (head_of (area_in s))) (path_within_lem p (drop 33 s) e ∙ area_path s m)

-- an area whose marks are none is not well formed
pub area_unmarked : (s : List ℕ) → area_marked s ≡ false → well_formed_area (area_in s) ≡ false
unfolding area_in
area_unmarked s m = rw m (none (well_formed (path_if false (drop 33 s))) refl)
  where
    none : (b : Bool) → well_formed (path_if false (drop 33 s)) ≡ b → b ≡ false
    none true e = absurd (unmarked (drop 33 s) e)
    none false e = refl

pub areas_unmarked : (s t : List ℕ) → (area_marked s && area_marked t) ≡ false → (well_formed_area (area_in s) && well_formed_area (area_in t)) ≡ false
areas_unmarked = either_unmarked area_marked (λ s. well_formed_area (area_in s)) area_unmarked
