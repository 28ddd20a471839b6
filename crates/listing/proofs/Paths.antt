-- The paths that the listing prints: each is well formed, told from every other, and read as it was.
use Rattle.codec.proofs.Prelude.{◌≡◌, refl, sym, ap, ◌∙◌, ◌↔◌, ◌⊎◌, inl, inr, List, [], ◌∷◌, ◌++◌, append_assoc, Bool, true, false, ℕ, arith, eqb, leb, length}
use Rattle.std.proofs.Common.{Option, Some, None}
use Rattle.codec.specs.Answers.{Said, said, unsaid, Answer, accepted, refused, AllBytes}
use Rattle.text.specs.Parts.{parts, part_at}
use Rattle.text.specs.Hex.{unhex}
use Rattle.text.specs.Decimal.{digit_count, decimal_text}
use Rattle.text.specs.Fields.{read_hex}
use Rattle.text.proofs.HexSteps.{unhex_bytes}
use Rattle.text.proofs.HexAnswers.{some_bytes_lem}
use Rattle.text.proofs.Joined.{parted, decimal_without}
use Rattle.path.specs.declared.Path.{Path as HeldPath}
use Rattle.path.specs.Record.{Path, components_of, well_formed, TypedPath}
use Rattle.path.specs.Flat.{path_in}
use Rattle.path.proofs.Loads.{flat_back}
use Rattle.path_text.specs.PathText.{path_text, path_text_of, read_path_text}
use Rattle.path_text.proofs.Printing.{text_without}
use Rattle.path_text.proofs.Back.{path_text_laws}
use Rattle.grouping.specs.Record.{Area}
use Rattle.grouping.specs.declared.RangeEnd.{RangeEnd}
use Rattle.area_area.specs.Records.{read_against_area}
use Rattle.area_area.proofs.Yields.{area_yields}
use Rattle.area_text.specs.AreaText.{read_subspace_text, read_end_text, subspace_text, end_text}
use Rattle.area_text.proofs.Short.{subspace_without}
use Rattle.case_text.specs.Limits.{max_bytes}
use Rattle.case_text.specs.Texts.{six, ok_text, no_text, ended}
use Rattle.case_text.specs.declared.Op.{Op}
use Rattle.case_text.specs.declared.Op.TheVariants as op
use Rattle.case_text.specs.Fields.{field, decimal_field, path_field, op_of}
use Rattle.listing.specs.Lines.{query_field, read_line, max_line, answer_to}
use Rattle.listing.specs.Laws.{Lists, listed_path, ListingLaws}

-- ---- a line is in its form or not; a reference has a typed path, and a message is bytes
record Query (line : List ℕ) (r : Area) (m : List ℕ) : Type 0 where
  says : query_field line ≡ Some (r, m)
  path : TypedPath r.path
  bytes : AllBytes m

parsed : (line : List ℕ) → (query_field line ≡ None) ⊎ ((r : Area) × (m : List ℕ) × Query line r m)
parsed line =
    by_cases (eqb (length (parts 9 line)) 6) refl (read_subspace_text (field 1 line)) refl (read_path_text (field 2 line)) refl (decimal_field 3 line) refl (read_end_text (field 4 line)) refl
    (read_hex (field 5 line) max_bytes) refl
  where
    by_cases : (b : Bool) → eqb (length (parts 9 line)) 6 ≡ b → (s : Option (Option (List ℕ))) → read_subspace_text (field 1 line) ≡ s → (p : Said HeldPath) → read_path_text (field 2 line) ≡ p
        → (d : Option ℕ) → decimal_field 3 line ≡ d → (e : Option RangeEnd) → read_end_text (field 4 line) ≡ e → (h : Said ℕ) → read_hex (field 5 line) max_bytes ≡ h
        → (query_field line ≡ None) ⊎ ((r : Area) × (m : List ℕ) × Query line r m)
    by_cases true bq (Some s) sq (said p) pq (Some d) dq (Some e) eq (said n) hq =
        let bytes = unhex_bytes (field 5 line) (some_bytes_lem (field 5 line) n max_bytes (sym hq)).0 in
        let area : Area = record { subspace = s; path = path_in p.flat; times = record { start = d; end = e } } in
        inr (area, unhex (field 5 line), record { says = rw (bq, sq, pq, dq, eq, hq) refl; path = (path_text_laws.read (field 2 line) p pq).0; bytes = bytes })
    by_cases true bq (Some s) sq (said p) pq (Some d) dq (Some e) eq (unsaid k) hq = inl (rw (bq, sq, pq, dq, eq, hq) refl)
    by_cases true bq (Some s) sq (said p) pq (Some d) dq None eq h hq = inl (rw (bq, sq, pq, dq, eq) refl)
    by_cases true bq (Some s) sq (said p) pq None dq e eq h hq = inl (rw (bq, sq, pq, dq) refl)
    by_cases true bq (Some s) sq (unsaid k) pq d dq e eq h hq = inl (rw (bq, sq, pq) refl)
    by_cases true bq None sq p pq d dq e eq h hq = inl (rw (bq, sq) refl)
    by_cases false bq s sq p pq d dq e eq h hq = inl (rw bq refl)

-- ---- every line
module _ (line : List ℕ) where
  abbrev Answered : Type 0
  Answered = ((k : ℕ) × (answer_to line ≡ ended (no_text k))) ⊎ ((a : Area) × Lists line a)

  six_said : answer_to line ≡ ended six → Answered
  unfolding no_text decimal_text digit_count
  six_said e = inl (6, e)

  read_said : (canonic : Bool) → answer_to line ≡ ended (read_line canonic line) → Answered
  read_said canonic e = by_parsed (parsed line)
    where
      by_answer : (r : Area) (m : List ℕ) → Query line r m → (x : Answer Area) → read_against_area canonic r m ≡ x → Answered
      by_answer r m q (accepted a n) read =
          let formed = (area_yields r q.path canonic).holds m a n q.bytes read in
          inr (a, record { canonic = canonic; reference = r; message = m; consumed = n; says = q.says; read = read; answer = e ∙ rw (q.says, read) refl; formed = formed })
      by_answer r m q (refused k) read = inl (k, e ∙ rw (q.says, read) refl)

      by_parsed : (query_field line ≡ None) ⊎ ((r : Area) × (m : List ℕ) × Query line r m) → Answered
      by_parsed (inl none) = six_said (e ∙ rw none refl)
      by_parsed (inr (r, m, q)) = by_answer r m q (read_against_area canonic r m) refl

  every : Answered
  unfolding answer_to
  every = by_cases (leb (length line) max_line) refl (op_of (field 0 line)) refl
    where
      by_cases : (b : Bool) → leb (length line) max_line ≡ b → (x : Option Op) → op_of (field 0 line) ≡ x → Answered
      by_cases false e x f = six_said (rw e)
      by_cases true e (Some op.Strict) f = read_said true (rw (e, f))
      by_cases true e (Some op.Lenient) f = read_said false (rw (e, f))
      by_cases true e (Some op.Write) f = six_said (rw (e, f))
      by_cases true e (Some op.Length) f = six_said (rw (e, f))
      by_cases true e None f = six_said (rw (e, f))

-- ---- the path that is printed
fields_apart : (n s p d e z : List ℕ)
    → ((111 ∷ 107 ∷ 9 ∷ n) ++ (9 ∷ (s ++ (9 ∷ p) ++ (9 ∷ d) ++ (9 ∷ e)))) ++ z ≡ (111 ∷ 107 ∷ []) ++ (9 ∷ (n ++ (9 ∷ (s ++ (9 ∷ (p ++ (9 ∷ (d ++ (9 ∷ (e ++ z))))))))))
fields_apart n s p d e z =
    rw (
      append_assoc n (9 ∷ (s ++ (9 ∷ p) ++ (9 ∷ d) ++ (9 ∷ e))) z,
      append_assoc (s ++ (9 ∷ p) ++ (9 ∷ d)) (9 ∷ e) z,
      append_assoc (s ++ (9 ∷ p)) (9 ∷ d) (9 ∷ (e ++ z)),
      append_assoc s (9 ∷ p) (9 ∷ (d ++ (9 ∷ (e ++ z)))),
    )

well_path : (p : Path) → well_formed p ≡ true → path_text (components_of p) ≡ path_text_of p
unfolding path_text_of
well_path p e = rw e

module _ (line : List ℕ) (a : Area) (l : Lists line a) where
  path_there : listed_path line ≡ path_text_of a.path
  unfolding part_at ok_text
  path_there =
      let s = subspace_text a.subspace in
      let p = path_text_of a.path in
      let d = decimal_text a.times.start in
      let e = end_text a.times.end in
      let n = decimal_text l.consumed in
      let rest = d ++ (9 ∷ (e ++ (10 ∷ []))) in
      rw (
        l.answer,
        fields_apart n s p d e (10 ∷ []),
        parted 9 (111 ∷ 107 ∷ []) (n ++ (9 ∷ (s ++ (9 ∷ (p ++ (9 ∷ rest)))))) (refl, (refl, tt)),
        parted 9 n (s ++ (9 ∷ (p ++ (9 ∷ rest)))) (decimal_without 9 (omega arith) l.consumed),
        parted 9 s (p ++ (9 ∷ rest)) (subspace_without a.subspace),
        parted 9 p rest (rw (← (well_path a.path l.formed.1)) (text_without (components_of a.path))),
      )

  back : (other : List ℕ) (i : ℕ) → field i other ≡ listed_path line → path_field i other ≡ Some a.path
  back other i e =
      let r = ap read_path_text (e ∙ path_there) ∙ path_text_laws.record_back a.path l.formed.0 l.formed.1 in
      rw (r, flat_back a.path l.formed.0 l.formed.1) refl

alike : (l m : List ℕ) (a b : Area) → Lists l a → Lists m b → listed_path l ≡ listed_path m ↔ components_of a.path ≡ components_of b.path
alike l m a b x y = rw (path_there l a x, path_there m b y) (path_text_laws.alike a.path b.path x.formed.0 y.formed.0 x.formed.1 y.formed.1)

pub listing_laws : ListingLaws
listing_laws = record { every = every; alike = alike; back = back }
