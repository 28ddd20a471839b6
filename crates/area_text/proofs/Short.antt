-- The texts of an area's fields: how long they are, that a subspace's has no tab, and what printing them puts.
use Rattle.std.proofs.Common.{◌≡◌, refl, ◌≤◌, ◌++◌, [], ◌∷◌, List, ℕ, arith, length, length-append, Option, Some, None}
use Rattle.grouping.specs.declared.RangeEnd.{RangeEnd}
use Rattle.grouping.specs.declared.RangeEnd.TheVariants.{Closed, Open}
use Rattle.grouping.specs.Record.{Area}
use Rattle.text.proofs.DecimalPrinted.{decimal_few}
use Rattle.text.specs.Buffer.{place_after, put_at}
use Rattle.text.specs.Decimal.{decimal_text}
use Rattle.path_text.specs.PathText.{path_text_of}
use Rattle.path_text.proofs.Back.{path_text_laws}
use Rattle.case_text.specs.Limits.{max_bytes}
use Rattle.case_text.specs.Texts.{after_tab}
use Rattle.case_text.specs.Answers.{PutsText}
use Rattle.case_text.proofs.Puts.{puts_fits, puts_tab}
use Rattle.text.proofs.Joined.{Without, hex_without}
use Rattle.area_text.specs.AreaText.{subspace_text, end_text, area_text}

-- there is no tab
pub subspace_without : (s : Option (List ℕ)) → Without 9 (subspace_text s)
subspace_without (Some id) = hex_without 9 (omega arith) id
subspace_without None = (refl, tt)

pub end_few : (e : RangeEnd) → length (end_text e) ≤ 20
end_few (Closed x) = decimal_few x
end_few Open = omega arith

pub area_few : (a : Area) → length (subspace_text a.subspace) ≤ 64 → length (area_text a) ≤ max_bytes
area_few a h =
    simp length-append (omega (arith, path_text_laws.path_few a.path, decimal_few a.times.start, end_few a.times.end))

-- an area's fields put one after another, with tabs between them
pub area_put : (a : Area) {l l1 l2 l3 l4 l5 l6 l7 : List ℕ} {p1 p2 p3 p4 p5 p6 p7 : ℕ} → length l ≡ max_bytes
    → length (subspace_text a.subspace) ≤ 64 → (p1 ≡ place_after 0 (subspace_text a.subspace) l) × (l1 ≡ put_at 0 (subspace_text a.subspace) l)
    → (p2 ≡ place_after p1 (9 ∷ []) l1) × (l2 ≡ put_at p1 (9 ∷ []) l1)
    → (p3 ≡ place_after p2 (path_text_of a.path) l2) × (l3 ≡ put_at p2 (path_text_of a.path) l2)
    → (p4 ≡ place_after p3 (9 ∷ []) l3) × (l4 ≡ put_at p3 (9 ∷ []) l3)
    → (p5 ≡ place_after p4 (decimal_text a.times.start) l4) × (l5 ≡ put_at p4 (decimal_text a.times.start) l4)
    → (p6 ≡ place_after p5 (9 ∷ []) l5) × (l6 ≡ put_at p5 (9 ∷ []) l5)
    → (p7 ≡ place_after p6 (end_text a.times.end) l6) × (l7 ≡ put_at p6 (end_text a.times.end) l6)
    → PutsText 0 (area_text a) l l7 p7 × (p7 ≤ max_bytes)
area_put a {l} long sf e1 e2 e3 e4 e5 e6 e7 =
    let s = subspace_text a.subspace in
    let p = path_text_of a.path in
    let d = decimal_text a.times.start in
    let pf = path_text_laws.path_few a.path in
    let df = decimal_few a.times.start in
    let ef = end_few a.times.end in
    let sp = length-append s (after_tab p) in
    let spd = length-append (s ++ after_tab p) (after_tab d) in
    let all = puts_tab (puts_tab (puts_tab (puts_fits s (omega arith) e1) p (omega arith) e2 e3) d (omega arith) e4 e5) (end_text a.times.end) (omega arith) e6 e7 in
    (all, omega (arith, all.place, area_few a sf))
