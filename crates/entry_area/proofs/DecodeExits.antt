-- What the readers' definitions answer at each exit of the code.
use Rattle.codec.proofs.Prelude.{◌≡◌, refl, sym, ap, ◌∙◌, List, Bool, true, false, ℕ, suc, ◌+◌, ◌≤◌, ◌<◌, arith, add-one, length, drop, get_or, length-drop, drop_of_length-le, drop-cons, eq-eqb, ne_eqb}
use Rattle.codec.specs.Answers.{Answer, accepted, refused}
use Rattle.codec.specs.Reader.{Reader, shift, named, checked, mapped}
use Rattle.codec.proofs.Bounded.{checked_bounded}
use Rattle.codec.proofs.Readers.{named_inv, named_refused}
use Rattle.path.specs.Record.{Path, components_of, path_from, sized, well_formed}
use Rattle.path.specs.Prefix.{is_prefix}
use Rattle.path.proofs.Components.{well_sized}
use Rattle.path_relative.specs.Against.{read_against}
use Rattle.path_relative.specs.Records.{read_within_by}
use Rattle.path_relative.proofs.Against.{against_bounded}
use Rattle.grouping.specs.declared.TimeRange.{TimeRange}
use Rattle.grouping.specs.Record.{Area, area_of, well_formed_area}
use Rattle.entry.specs.Record.{entry_from}
use Rattle.entry.specs.Entry.{EntryValue}
use Rattle.entry_area.proofs.Id.{id_bounded}
use Rattle.entry_area_end.specs.declared.EntryAreaHeader.{EntryAreaHeader}
use Rattle.entry_area_end.specs.declared.End.{End}
use Rattle.entry_area_end.specs.Header.{header_length, unpack_header}
use Rattle.entry_area_end.specs.End.{read_after_path}
use Rattle.entry_area_end.proofs.Reading.{end_laws}
use Rattle.entry_area.specs.Entry.{read_id, read_rest, read_parts, read_entry}
use Rattle.entry_area.specs.Records.{read_against_namespace_area}

-- ---- what follows the id, where the area's path was tested
module _ (canonic : Bool) (n i : List ℕ) (r : Path) (w : well_formed r ≡ true) (times : TimeRange) (h : EntryAreaHeader) (s : List ℕ) where
  abbrev path_within : Reader (List (List ℕ))
  path_within = checked (is_prefix (components_of r)) (read_against canonic (components_of r))

  within_is : read_within_by sized canonic r s ≡ named path_from (path_within s)
  within_is = rw (well_sized r w)

  pub within_refused : (k : ℕ) → read_within_by sized canonic r s ≡ refused k → mapped entry_from (read_rest canonic n i (components_of r) times h) s ≡ refused k
  unfolding read_rest
  within_refused k e = rw (named_refused path_from (path_within s) k (sym within_is ∙ e))

  module _ (p : Path) (b : ℕ) (e : read_within_by sized canonic r s ≡ accepted p b) where
    read : (cs : List (List ℕ)) × (path_within s ≡ accepted cs b) × (path_from cs ≡ p)
    read = named_inv path_from (path_within s) p b (sym within_is ∙ e)

    pub within_inside : b ≤ length s
    within_inside = (checked_bounded (is_prefix (components_of r)) _ (against_bounded (components_of r) canonic)).bound s _ _ read.1

    pub within_end : (k : ℕ) → read_after_path canonic times h (drop b s) ≡ refused k → mapped entry_from (read_rest canonic n i (components_of r) times h) s ≡ refused k
    unfolding read_rest
    within_end k g =
        let (cs, f, q) = read in
        rw (f, g)

    module _ (z : End) (c : ℕ) (g : read_after_path canonic times h (drop b s) ≡ accepted z c) where
      pub within_whole : b + c ≤ length s
      within_whole = omega (arith, within_inside, ((end_laws times h).bounded canonic).bound (drop b s) z c g, length-drop b s)

      pub within_read : mapped entry_from (read_rest canonic n i (components_of r) times h) s
          ≡ accepted (record { namespace_id = n; subspace_id = i; path = p; timestamp = z.timestamp; payload_length = z.payload_length; payload_digest = z.payload_digest }) (b + c)
      unfolding read_rest entry_from
      within_read =
          let (cs, f, q) = read in
          rw (f, g, q)

-- ---- what follows the header
module _ (canonic : Bool) (n : List ℕ) (r : Area) (h : EntryAreaHeader) (s : List ℕ) where
  pub parts-id : (k : ℕ) → read_id r.subspace h.id_written s ≡ refused k → mapped entry_from (read_parts canonic n (area_of r) h) s ≡ refused k
  unfolding read_parts
  parts-id k e = rw e

  module _ (i : List ℕ) (a : ℕ) (e : read_id r.subspace h.id_written s ≡ accepted i a) where
    pub id_inside : a ≤ length s
    id_inside = (id_bounded r.subspace h.id_written).bound s i a e

    pub parts_rest : shift header_length (mapped entry_from (read_parts canonic n (area_of r) h) s) ≡ shift (header_length + a) (mapped entry_from (read_rest canonic n i (components_of r.path) r.times h) (drop a s))
    unfolding read_parts
    parts_rest = rw e (go (read_rest canonic n i (components_of r.path) r.times h (drop a s)))
      where
        go : (x : Answer EntryValue) → shift header_length (named entry_from (shift a x)) ≡ shift (header_length + a) (named entry_from x)
        go (accepted v m) = ap (λ (k : ℕ). accepted (entry_from v) k) (omega arith)
        go (refused k) = refl

-- ---- an entry against an area that was tested
pub area_malformed : (canonic : Bool) (n : List ℕ) (r : Area) (s : List ℕ) → well_formed_area r ≡ false → read_against_namespace_area canonic n r s ≡ refused 5
unfolding read_against_namespace_area
area_malformed canonic n r s w = rw w

module _ (canonic : Bool) (n : List ℕ) (r : Area) (w : well_formed_area r ≡ true) (s : List ℕ) (i : ℕ) where
  pub entry_none : length s ≤ i → read_against_namespace_area canonic n r (drop i s) ≡ refused 1
  unfolding read_against_namespace_area read_entry
  entry_none h = rw (w, drop_of_length-le s h)

  module _ (h : i < length s) where
    pub entry_spare : ((unpack_header (get_or s i 0)).spare ≡ 0 → ⊥) → read_against_namespace_area canonic n r (drop i s) ≡ refused 2
    unfolding read_against_namespace_area read_entry
    entry_spare e = rw (w, drop-cons s i 0 h, ne_eqb (unpack_header (get_or s i 0)).spare 0 e)

    pub entry_parts_lem : (unpack_header (get_or s i 0)).spare ≡ 0 → read_against_namespace_area canonic n r (drop i s)
        ≡ shift header_length (mapped entry_from (read_parts canonic n (area_of r) (unpack_header (get_or s i 0))) (drop (i + header_length) s))
    unfolding read_against_namespace_area read_entry
    entry_parts_lem e =
        rw (w, drop-cons s i 0 h, eq-eqb (unpack_header (get_or s i 0)).spare 0 e, add-one i) (later (read_parts canonic n (area_of r) (unpack_header (get_or s i 0)) (drop (suc i) s)))
      where
        later : (x : Answer EntryValue) → named entry_from (shift header_length x) ≡ shift header_length (named entry_from x)
        later (accepted v n) = refl
        later (refused k) = refl
