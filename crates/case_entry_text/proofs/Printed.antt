-- What printing an entry puts, and how long it is.
use Rattle.std.proofs.Common.{◌≡◌, ◌≤◌, ◌++◌, [], ◌∷◌, List, ℕ, arith, length, length-append}
use Rattle.entry.specs.Record.{Entry}
use Rattle.text.specs.Buffer.{place_after, put_at}
use Rattle.text.specs.Decimal.{decimal_text}
use Rattle.text.specs.Hex.{hex_text}
use Rattle.text.proofs.DecimalPrinted.{decimal_few}
use Rattle.text.proofs.HexSteps.{hex_text_long}
use Rattle.path_text.specs.PathText.{path_text_of}
use Rattle.path_text.proofs.Back.{path_text_laws}
use Rattle.case_text.specs.Limits.{max_bytes}
use Rattle.case_text.specs.Texts.{after_tab}
use Rattle.case_text.specs.Answers.{PutsText}
use Rattle.case_text.proofs.Puts.{puts_fits, puts_tab}
use Rattle.case_entry_text.specs.Fields.{entry_text}

-- an entry's fields put one after another, with tabs between them
pub entry_put : (e : Entry) → length e.namespace_id ≡ 32 → length e.subspace_id ≡ 32 → length e.payload_digest ≡ 32
    → {l l1 l2 l3 l4 l5 l6 l7 l8 l9 l10 l11 : List ℕ} {p1 p2 p3 p4 p5 p6 p7 p8 p9 p10 p11 : ℕ} → length l ≡ max_bytes
    → (p1 ≡ place_after 0 (hex_text e.namespace_id) l) × (l1 ≡ put_at 0 (hex_text e.namespace_id) l)
    → (p2 ≡ place_after p1 (9 ∷ []) l1) × (l2 ≡ put_at p1 (9 ∷ []) l1)
    → (p3 ≡ place_after p2 (hex_text e.subspace_id) l2) × (l3 ≡ put_at p2 (hex_text e.subspace_id) l2)
    → (p4 ≡ place_after p3 (9 ∷ []) l3) × (l4 ≡ put_at p3 (9 ∷ []) l3)
    → (p5 ≡ place_after p4 (path_text_of e.path) l4) × (l5 ≡ put_at p4 (path_text_of e.path) l4)
    → (p6 ≡ place_after p5 (9 ∷ []) l5) × (l6 ≡ put_at p5 (9 ∷ []) l5)
    → (p7 ≡ place_after p6 (decimal_text e.timestamp) l6) × (l7 ≡ put_at p6 (decimal_text e.timestamp) l6)
    → (p8 ≡ place_after p7 (9 ∷ []) l7) × (l8 ≡ put_at p7 (9 ∷ []) l7)
    → (p9 ≡ place_after p8 (decimal_text e.payload_length) l8) × (l9 ≡ put_at p8 (decimal_text e.payload_length) l8)
    → (p10 ≡ place_after p9 (9 ∷ []) l9) × (l10 ≡ put_at p9 (9 ∷ []) l9)
    → (p11 ≡ place_after p10 (hex_text e.payload_digest) l10) × (l11 ≡ put_at p10 (hex_text e.payload_digest) l10)
    → PutsText 0 (entry_text e) l l11 p11 × (p11 ≤ max_bytes)
entry_put e namespace subspace digest {l} long e1 e2 e3 e4 e5 e6 e7 e8 e9 e10 e11 =
    let n = hex_text e.namespace_id in
    let s = hex_text e.subspace_id in
    let p = path_text_of e.path in
    let t = decimal_text e.timestamp in
    let z = decimal_text e.payload_length in
    let d = hex_text e.payload_digest in
    let nf = hex_text_long e.namespace_id in
    let sf = hex_text_long e.subspace_id in
    let pf = path_text_laws.path_few e.path in
    let tf = decimal_few e.timestamp in
    let zf = decimal_few e.payload_length in
    let df = hex_text_long e.payload_digest in
    let ns = length-append n (after_tab s) in
    let nsp = length-append (n ++ after_tab s) (after_tab p) in
    let nspt = length-append (n ++ after_tab s ++ after_tab p) (after_tab t) in
    let nsptz = length-append (n ++ after_tab s ++ after_tab p ++ after_tab t) (after_tab z) in
    let nsptzd = length-append (n ++ after_tab s ++ after_tab p ++ after_tab t ++ after_tab z) (after_tab d) in
    let names = puts_tab (puts_tab (puts_fits n (omega arith) e1) s (omega arith) e2 e3) p (omega arith) e4 e5 in
    let all = puts_tab (puts_tab (puts_tab names t (omega arith) e6 e7) z (omega arith) e8 e9) d (omega arith) e10 e11 in
    (all, omega (arith, all.place))
