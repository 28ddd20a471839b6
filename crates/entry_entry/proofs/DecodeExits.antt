-- What the readers' definitions answer at each exit of the code.
use Rattle.codec.proofs.Prelude.{◌≡◌, refl, ap, List, Bool, true, false, ℕ, ◌+◌, ◌≤◌, ◌<◌, arith, leb, leb-true, leb-false, length, drop, get_or, length-drop, drop_of_length-le, drop-drop}
use Rattle.codec.specs.Answers.{accepted, refused}
use Rattle.codec.specs.Reader.{some_bytes, mapped, on_formed}
use Rattle.codec.proofs.Readers.{named_inv, named_refused}
use Rattle.path.specs.Record.{Path, components_of, path_from, well_formed}
use Rattle.path_relative.specs.Against.{read_against}
use Rattle.path_relative.specs.Records.{read_against_path}
use Rattle.path_relative.proofs.Against.{against_bounded}
use Rattle.entry.specs.Record.{Entry, entry_of, entry_from}
use Rattle.entry_numbers.specs.declared.EntryHeader.{EntryHeader}
use Rattle.entry_numbers.specs.declared.Numbers.{Numbers}
use Rattle.entry_numbers.specs.Header.{header_length, unpack_header}
use Rattle.entry_numbers.specs.Numbers.{read_numbers}
use Rattle.entry_numbers.proofs.Reading.{numbers_bounded}
use Rattle.entry_entry.specs.declared.Ids.{Ids}
use Rattle.entry_entry.specs.declared.Head.{Head}
use Rattle.entry_entry.specs.Entry.{read_id, ids_from, read_ids, read_head, read_entry}
use Rattle.entry_entry.specs.Records.{read_against_entry}
use Rattle.entry_entry.proofs.Entry.{ids_bounded, head_bounded}

-- ---- the ids
module _ (namespace subspace : List ℕ) (h : EntryHeader) (s : List ℕ) where
  module _ (n : List ℕ) (a : ℕ) (e : read_id h.namespace_written namespace s ≡ accepted n a) where
    module _ (i : List ℕ) (b : ℕ) (f : read_id h.subspace_written subspace (drop a s) ≡ accepted i b) where
      pub ids_read : read_ids namespace subspace h s ≡ accepted (ids_from n i) (a + b)
      unfolding read_ids
      ids_read = rw (e, f)

      pub ids_inside : a + b ≤ length s
      ids_inside = (ids_bounded namespace subspace h).bound s _ _ ids_read

-- ---- what comes before the path
module _ (namespace subspace : List ℕ) (time : ℕ) (s : List ℕ) (i : ℕ) where
  pub head_none : length s ≤ i → read_head namespace subspace time (drop i s) ≡ refused 1
  unfolding read_head
  head_none l = rw (drop_of_length-le s l)

  module _ (l : i < length s) where
    module _ (ids : Ids) (a : ℕ) (e : read_ids namespace subspace (unpack_header (get_or s i 0)) (drop (i + header_length) s) ≡ accepted ids a) where
      pub first_inside : i + header_length + a ≤ length s
      first_inside = omega (arith, (ids_bounded namespace subspace (unpack_header (get_or s i 0))).bound (drop (i + header_length) s) _ _ e, length-drop (i + header_length) s)

      module _ (n : Numbers) (b : ℕ) (f : read_numbers time (unpack_header (get_or s i 0)) (drop (i + header_length + a) s) ≡ accepted n b) where
        pub second_inside : i + (header_length + (a + b)) ≤ length s
        second_inside = omega (arith, first_inside, (numbers_bounded time (unpack_header (get_or s i 0))).bound (drop (i + header_length + a) s) n b f, length-drop (i + header_length + a) s)

  -- bytes were read, so the place is inside
  pub head_inside : (h : Head) (a : ℕ) → read_head namespace subspace time (drop i s) ≡ accepted h a → i + a ≤ length s
  head_inside h a e = omega (arith, (head_bounded namespace subspace time).bound (drop i s) h a e, length-drop i s, there)
    where
      there : i ≤ length s
      there = go (leb (length s) i) refl
        where
          go : (b : Bool) → leb (length s) i ≡ b → i ≤ length s
          go true l = let f = head_none (leb-true (length s) i l) in let z : ◌≡◌ {A = ℕ} 0 1 = cc in absurd (omega arith)
          go false l = omega (arith, leb-false (length s) i l)

-- ---- an entry
abbrev joined : Head → Path → List ℕ → Entry
joined h p d = record {
  namespace_id = h.ids.namespace_id;
  subspace_id = h.ids.subspace_id;
  path = p;
  timestamp = h.numbers.timestamp;
  payload_length = h.numbers.payload_length;
  payload_digest = d;
}

module _ (r : Entry) (s : List ℕ) (i : ℕ) where
  pub entry_malformed : well_formed r.path ≡ false → read_against_entry r (drop i s) ≡ refused 5
  unfolding read_against_entry
  entry_malformed w = rw w

  pub entry_head : well_formed r.path ≡ true → (k : ℕ) → read_head r.namespace_id r.subspace_id r.timestamp (drop i s) ≡ refused k
      → read_against_entry r (drop i s) ≡ refused k
  unfolding read_against_entry read_entry
  entry_head w k e = rw (w, e)

  module _ (h : Head) (a : ℕ) (e : read_head r.namespace_id r.subspace_id r.timestamp (drop i s) ≡ accepted h a) where
    pub entry_path : (k : ℕ) → read_against_path false r.path (drop (i + a) s) ≡ refused k → read_against_entry r (drop i s) ≡ refused k
    unfolding read_against_entry read_entry read_against_path
    entry_path k f = go (well_formed r.path) f
      where
        go : (b : Bool) → on_formed b (mapped path_from (read_against false (components_of r.path))) (drop (i + a) s) ≡ refused k
            → on_formed b (mapped entry_from (read_entry (entry_of r))) (drop i s) ≡ refused k
        go true f = rw (e, drop-drop, named_refused path_from (read_against false (components_of r.path) (drop (i + a) s)) k f)
        go false f = let z : ◌≡◌ {A = ℕ} 5 k = cc in ap (λ (n : ℕ). refused n) z

    module _ (p : Path) (b : ℕ) (f : read_against_path false r.path (drop (i + a) s) ≡ accepted p b) where
      -- the reference is well formed, since a path was read against its own
      formed : (well_formed r.path ≡ true) × (cs : List (List ℕ)) × (read_against false (components_of r.path) (drop (i + a) s) ≡ accepted cs b) × (path_from cs ≡ p)
      unfolding read_against_path
      formed = go (well_formed r.path) f
        where
          go : (w : Bool) → on_formed w (mapped path_from (read_against false (components_of r.path))) (drop (i + a) s) ≡ accepted p b
              → (w ≡ true) × (cs : List (List ℕ)) × (read_against false (components_of r.path) (drop (i + a) s) ≡ accepted cs b) × (path_from cs ≡ p)
          go true f =
              let (cs, l, q) = named_inv path_from (read_against false (components_of r.path) (drop (i + a) s)) p b f in
              (refl, cs, l, q)
          go false f = let z : ◌≡◌ {A = ℕ} 0 1 = cc in absurd (omega arith)

      pub path_inside : i + a + b ≤ length s
      path_inside =
          omega (
            arith,
            head_inside r.namespace_id r.subspace_id r.timestamp s i h a e,
            (against_bounded (components_of r.path) false).bound
                (drop (i + a) s) _ _ formed.2,
            length-drop (i + a) s,
          )

      pub entry_digest : (k : ℕ) → some_bytes 32 (drop (i + a + b) s) ≡ refused k → read_against_entry r (drop i s) ≡ refused k
      unfolding read_against_entry read_entry
      entry_digest k g =
          let (w, cs, l, q) = formed in
          rw (w, e, drop-drop, l, drop-drop, g)

      module _ (d : List ℕ) (c : ℕ) (g : some_bytes 32 (drop (i + a + b) s) ≡ accepted d c) where
        pub entry_read : read_against_entry r (drop i s) ≡ accepted (joined h p d) (a + (b + c))
        unfolding read_against_entry read_entry entry_from
        entry_read =
            let (w, cs, l, q) = formed in
            rw (w, e, drop-drop, l, drop-drop, g, q)
