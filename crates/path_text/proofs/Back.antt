-- There and back: what was printed is read as it was; what is read is well formed.
use Rattle.codec.proofs.Prelude.{◌≡◌, refl, sym, ap, ◌∙◌, ◌↔◌, List, [], ◌∷◌, ◌++◌, map, append-nil, Bool, true, false, cond, ℕ, ◌/◌, ◌≤◌, arith, length}
use Rattle.codec.specs.Answers.{said}
use Rattle.codec.specs.Writings.{All}
use Rattle.codec.specs.Bytes.{same_bytes}
use Rattle.text.specs.Parts.{parts}
use Rattle.text.specs.Hex.{is_hex, unhex, hex_text}
use Rattle.std.proofs.lemmas.Bool.{and_parts}
use Rattle.text.proofs.HexSteps.{unhex_bytes}
use Rattle.text.proofs.Back.{hex_back}
use Rattle.text.proofs.Joined.{one_part, parted, other_glyph, hex_without}
use Rattle.path.specs.declared.Path.{Path as HeldPath}
use Rattle.path.specs.Record.{Path, components_of, path_from, well_formed, TypedPath}
use Rattle.path.specs.Limits.{path_ok, Component, PathOk, TypedComponents}
use Rattle.path.specs.Flat.{path_flat, path_in}
use Rattle.path.proofs.Limits.{path_ok_lem, ok_path}
use Rattle.path.proofs.Record.{apart_path, well_formed_lem, well_made}
use Rattle.path.proofs.Loads.{flat_back}
use Rattle.path.proofs.Components.{parts_formed, count_is, total_small}
use Rattle.path_text.specs.PathText.{max_path_text, tail_text, path_text, path_text_of, read_field, refused_field, all_hex, field_of, read_texts, read_components_text, read_path_text}
use Rattle.path_text.specs.Laws.{PathTextLaws}
use Rattle.path_text.proofs.Reading.{field_ok}
use Rattle.path_text.proofs.Printing as printing

-- ---- the parts of a text are the components' texts
text_parts : (c : List ℕ) (cs : List (List ℕ)) → parts 47 (path_text (c ∷ cs)) ≡ hex_text c ∷ map hex_text cs
unfolding path_text tail_text
text_parts c [] = rw (append-nil (hex_text c), one_part 47 (hex_text c) (hex_without 47 (omega arith) c))
text_parts c (d ∷ cs) = rw (parted 47 (hex_text c) (hex_text d ++ tail_text cs) (hex_without 47 (omega arith) c), text_parts d cs)

texts_back : (cs : List (List ℕ)) → All Component cs → (all_hex (map hex_text cs) ≡ true) × (map unhex (map hex_text cs) ≡ cs)
texts_back [] h = (refl, refl)
texts_back (c ∷ cs) h =
    let b = hex_back c h.0.bytes in
    let r = texts_back cs h.1 in
    (rw b.0 r.0, rw (b.1, r.1))

components_back : (c : List ℕ) (cs : List (List ℕ)) → PathOk (c ∷ cs) → read_components_text (path_text (c ∷ cs)) ≡ read_field (path_from (c ∷ cs))
unfolding read_components_text read_texts
components_back c cs h =
    let b = texts_back (c ∷ cs) h.all in
    rw (text_parts c cs, b.0, b.1, field_ok (c ∷ cs) (ok_path (c ∷ cs) h))

-- ---- no components' text is `-`
other_text : (c : List ℕ) (cs : List (List ℕ)) → same_bytes (path_text (c ∷ cs)) (45 ∷ []) ≡ false
unfolding path_text hex_text tail_text
other_text [] [] = refl
other_text [] (d ∷ cs) = refl
other_text (b ∷ c) cs = rw (other_glyph 45 (omega arith) (b / 16))

path_back : (cs : List (List ℕ)) → PathOk cs → read_path_text (path_text cs) ≡ read_field (path_from cs)
unfolding read_path_text path_text
path_back [] h = refl
path_back (c ∷ cs) h = rw (other_text c cs) (components_back c cs h)

-- ---- of a record
record_back : (p : Path) → TypedPath p → well_formed p ≡ true → read_path_text (path_text_of p) ≡ read_field p
unfolding path_text_of
record_back p t e =
    let a = apart_path p t (well_formed_lem p e) in
    rw e (path_back (components_of p) a.ok ∙ ap read_field a.made)

alike : (p q : Path) → TypedPath p → TypedPath q → well_formed p ≡ true → well_formed q ≡ true → path_text_of p ≡ path_text_of q ↔ components_of p ≡ components_of q
unfolding path_text_of
alike p q t u e f = (
  λ h.
      let b = sym (record_back p t e) ∙ ap read_path_text h ∙ record_back q u f in
      let held : ◌≡◌ {A = HeldPath} (record { flat = path_flat p }) (record { flat = path_flat q }) = cc in
      ap components_of (sym (flat_back p t e) ∙ ap (λ (x : HeldPath). path_in x.flat) held ∙ flat_back q u f),
  λ h. rw (e, f, h),
)

-- ---- what is read is well formed
texts_typed : (ts : List (List ℕ)) → all_hex ts ≡ true → TypedComponents (map unhex ts)
texts_typed [] h = tt
texts_typed (t ∷ ts) h = let b = and_parts (is_hex t) (all_hex ts) h in (unhex_bytes t b.0, texts_typed ts b.1)

module _ (p : HeldPath) where
  abbrev Well : Type 0
  Well = TypedPath (path_in p.flat) × (well_formed (path_in p.flat) ≡ true)

  field_well : (cs : List (List ℕ)) → TypedComponents cs → path_ok cs ≡ true → read_field (path_from cs) ≡ said p → Well
  field_well cs t ok h =
      let w = well_made cs (path_ok_lem cs t ok) in
      let flat : path_flat (path_from cs) ≡ p.flat = cc in
      rw (← flat, flat_back (path_from cs) w.0 w.1) w

read_well : (s : List ℕ) (p : HeldPath) → read_path_text s ≡ said p → Well p
unfolding read_path_text read_components_text read_texts field_of path_ok
read_well s p h = by_cases (same_bytes s (45 ∷ [])) (all_hex (parts 47 s)) refl (path_ok (map unhex (parts 47 s))) refl h
  where
    by_cases : (a b : Bool) → all_hex (parts 47 s) ≡ b → (c : Bool) → path_ok (map unhex (parts 47 s)) ≡ c
        → cond a (read_field (path_from [])) (cond b (cond c (read_field (path_from (map unhex (parts 47 s)))) refused_field) refused_field) ≡ said p → Well p
    by_cases true b e c f h = field_well p [] tt refl h
    by_cases false true e true f h = field_well p (map unhex (parts 47 s)) (texts_typed (parts 47 s) e) f h
    by_cases false true e false f h = let z : ◌≡◌ {A = ℕ} 0 1 = cc in absurd (omega arith)
    by_cases false false e c f h = let z : ◌≡◌ {A = ℕ} 0 1 = cc in absurd (omega arith)

path_few : (p : Path) → length (path_text_of p) ≤ max_path_text
unfolding path_text_of
path_few p = by_cases (well_formed p) refl
  where
    by_cases : (b : Bool) → well_formed p ≡ b → length (cond b (path_text (components_of p)) []) ≤ max_path_text
    by_cases true e = let f = parts_formed e in printing.path_few (components_of p) (omega (arith, count_is p f, f.well.count)) (total_small p f)
    by_cases false e = omega arith

pub path_text_laws : PathTextLaws
path_text_laws = record { path = path_back; record_back = record_back; alike = alike; read = read_well; path_few = path_few }
