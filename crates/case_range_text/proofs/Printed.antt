-- What printing a 3d range puts, and how long it is.
use Rattle.std.proofs.Common.{◌≡◌, ◌≤◌, ◌++◌, [], ◌∷◌, List, ℕ, arith, length, length-append, Option, Some, None}
use Rattle.path.specs.Record.{Path}
use Rattle.range_3d.specs.Record.{Range3d}
use Rattle.text.specs.Buffer.{place_after, put_at}
use Rattle.text.specs.Decimal.{decimal_text}
use Rattle.text.specs.Hex.{hex_text}
use Rattle.text.proofs.DecimalPrinted.{decimal_few}
use Rattle.text.proofs.HexSteps.{hex_text_long}
use Rattle.path_text.specs.PathText.{max_path_text, path_text_of}
use Rattle.path_text.proofs.Back.{path_text_laws}
use Rattle.area_text.specs.AreaText.{subspace_text, end_text}
use Rattle.area_text.proofs.Short.{end_few}
use Rattle.case_text.specs.Limits.{max_bytes}
use Rattle.case_text.specs.Texts.{after_tab}
use Rattle.case_text.specs.Answers.{PutsText}
use Rattle.case_text.proofs.Puts.{puts_fits, puts_tab}
use Rattle.case_range_text.specs.Fields.{path_end_text, range_text}

path_end_few : (end : Option Path) → length (path_end_text end) ≤ max_path_text
path_end_few (Some end) = path_text_laws.path_few end
path_end_few None = omega arith

-- a 3d range's fields put one after another, with tabs between them
pub range_put : (r : Range3d) → length r.subspaces.start ≡ 32 → length (subspace_text r.subspaces.end) ≤ 64
    → {l l1 l2 l3 l4 l5 l6 l7 l8 l9 l10 l11 : List ℕ} {p1 p2 p3 p4 p5 p6 p7 p8 p9 p10 p11 : ℕ} → length l ≡ max_bytes
    → (p1 ≡ place_after 0 (hex_text r.subspaces.start) l) × (l1 ≡ put_at 0 (hex_text r.subspaces.start) l)
    → (p2 ≡ place_after p1 (9 ∷ []) l1) × (l2 ≡ put_at p1 (9 ∷ []) l1)
    → (p3 ≡ place_after p2 (subspace_text r.subspaces.end) l2) × (l3 ≡ put_at p2 (subspace_text r.subspaces.end) l2)
    → (p4 ≡ place_after p3 (9 ∷ []) l3) × (l4 ≡ put_at p3 (9 ∷ []) l3)
    → (p5 ≡ place_after p4 (path_text_of r.paths.start) l4) × (l5 ≡ put_at p4 (path_text_of r.paths.start) l4)
    → (p6 ≡ place_after p5 (9 ∷ []) l5) × (l6 ≡ put_at p5 (9 ∷ []) l5)
    → (p7 ≡ place_after p6 (path_end_text r.paths.end) l6) × (l7 ≡ put_at p6 (path_end_text r.paths.end) l6)
    → (p8 ≡ place_after p7 (9 ∷ []) l7) × (l8 ≡ put_at p7 (9 ∷ []) l7)
    → (p9 ≡ place_after p8 (decimal_text r.times.start) l8) × (l9 ≡ put_at p8 (decimal_text r.times.start) l8)
    → (p10 ≡ place_after p9 (9 ∷ []) l9) × (l10 ≡ put_at p9 (9 ∷ []) l9)
    → (p11 ≡ place_after p10 (end_text r.times.end) l10) × (l11 ≡ put_at p10 (end_text r.times.end) l10)
    → PutsText 0 (range_text r) l l11 p11 × (p11 ≤ max_bytes)
range_put r start tf {l} long e1 e2 e3 e4 e5 e6 e7 e8 e9 e10 e11 =
    let s = hex_text r.subspaces.start in
    let t = subspace_text r.subspaces.end in
    let p = path_text_of r.paths.start in
    let q = path_end_text r.paths.end in
    let d = decimal_text r.times.start in
    let e = end_text r.times.end in
    let sf = hex_text_long r.subspaces.start in
    let pf = path_text_laws.path_few r.paths.start in
    let qf = path_end_few r.paths.end in
    let df = decimal_few r.times.start in
    let ef = end_few r.times.end in
    let st = length-append s (after_tab t) in
    let stp = length-append (s ++ after_tab t) (after_tab p) in
    let stpq = length-append (s ++ after_tab t ++ after_tab p) (after_tab q) in
    let stpqd = length-append (s ++ after_tab t ++ after_tab p ++ after_tab q) (after_tab d) in
    let stpqde = length-append (s ++ after_tab t ++ after_tab p ++ after_tab q ++ after_tab d) (after_tab e) in
    let starts = puts_tab (puts_tab (puts_fits s (omega arith) e1) t (omega arith) e2 e3) p (omega arith) e4 e5 in
    let all = puts_tab (puts_tab (puts_tab starts q (omega arith) e6 e7) d (omega arith) e8 e9) e (omega arith) e10 e11 in
    (all, omega (arith, all.place))
