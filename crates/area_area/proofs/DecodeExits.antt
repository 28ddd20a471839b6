-- What the readers' definitions answer at each exit of the code.
use Rattle.codec.proofs.Prelude.{◌≡◌, refl, List, Bool, true, false, cond, not, ℕ, suc, ◌+◌, ◌≤◌, ◌<◌, add-one, length, drop, get_or, drop_of_length-le, drop-cons, drop-drop}
use Rattle.std.specs.Prelude.{Option}
use Rattle.codec.specs.Answers.{Answer, accepted, refused}
use Rattle.codec.specs.Reader.{shift, named, mapped}
use Rattle.codec.proofs.Bounded.{mapped_bounded}
use Rattle.codec.proofs.Readers.{named_inv, named_refused}
use Rattle.path.specs.Record.{Path, components_of, path_from}
use Rattle.path_relative.specs.Extension.{read_extension}
use Rattle.grouping.specs.declared.TimeRange.{TimeRange}
use Rattle.grouping.specs.Record.{Area, area_of, area_from, well_formed_area}
use Rattle.grouping.specs.Area.{AreaValue}
use Rattle.area_times.specs.declared.AreaHeader.{AreaHeader}
use Rattle.area_times.specs.Header.{header_length, unpack_header, spare_bits}
use Rattle.area_times.specs.Times.{read_times}
use Rattle.area_area.specs.Area.{read_subspace, read_parts, read_area}
use Rattle.area_area.specs.Records.{read_against_area}
use Rattle.area_area.proofs.Area.{parts_bounded}

-- ---- what follows the header, where the reference was tested
module _ (canonic : Bool) (r : Area) (h : AreaHeader) (s : List ℕ) where
  pub tested_inside : (x : Area) (n : ℕ) → mapped area_from (read_parts canonic (area_of r) h) s ≡ accepted x n → n ≤ length s
  tested_inside x n e = (mapped_bounded area_from _ (parts_bounded (area_of r) h canonic)).bound s x n e

  pub tested_subspace : (k : ℕ) → read_subspace canonic r.subspace h.id_written s ≡ refused k
      → mapped area_from (read_parts canonic (area_of r) h) s ≡ refused k
  unfolding read_parts
  tested_subspace k e = rw e

  module _ (i : Option (List ℕ)) (a : ℕ) (e : read_subspace canonic r.subspace h.id_written s ≡ accepted i a) where
    pub tested_times : (k : ℕ) → read_times canonic r.times h (drop a s) ≡ refused k → mapped area_from (read_parts canonic (area_of r) h) s ≡ refused k
    unfolding read_parts
    tested_times k f = rw (e, f)

    module _ (t : TimeRange) (b : ℕ) (f : read_times canonic r.times h (drop a s) ≡ accepted t b) where
      pub tested_path : (k : ℕ) → mapped path_from (read_extension canonic (components_of r.path)) (drop (a + b) s) ≡ refused k
          → mapped area_from (read_parts canonic (area_of r) h) s ≡ refused k
      unfolding read_parts
      tested_path k g =
          rw (e, f, drop-drop, named_refused path_from (read_extension canonic (components_of r.path) (drop (a + b) s)) k g)

      pub tested_read : (x : Path) (n : ℕ) → mapped path_from (read_extension canonic (components_of r.path)) (drop (a + b) s) ≡ accepted x n
          → mapped area_from (read_parts canonic (area_of r) h) s ≡ accepted (record { subspace = i; path = x; times = t }) (a + (b + n))
      unfolding read_parts area_from
      tested_read x n g =
          let (cs, k, l) = named_inv path_from (read_extension canonic (components_of r.path) (drop (a + b) s)) x n g in
          rw (e, f, drop-drop, k, l)

-- ---- an area against a reference that was tested
module _ (canonic : Bool) (r : Area) (s : List ℕ) where
  pub area_malformed : well_formed_area r ≡ false → read_against_area canonic r s ≡ refused 5
  unfolding read_against_area
  area_malformed w = rw w

module _ (canonic : Bool) (r : Area) (w : well_formed_area r ≡ true) (s : List ℕ) (i : ℕ) where
  pub tested_none : length s ≤ i → read_against_area canonic r (drop i s) ≡ refused 1
  unfolding read_against_area read_area
  tested_none h = rw (w, drop_of_length-le s h)

  module _ (h : i < length s) where
    pub tested_spare : canonic ≡ true → spare_bits (unpack_header (get_or s i 0)) ≡ true → read_against_area canonic r (drop i s) ≡ refused 2
    unfolding read_against_area read_area
    tested_spare c e = rw (w, drop-cons s i 0 h, c, e)

    pub tested_parts : (canonic ≡ true → spare_bits (unpack_header (get_or s i 0)) ≡ false) → read_against_area canonic r (drop i s)
        ≡ shift header_length (mapped area_from (read_parts canonic (area_of r) (unpack_header (get_or s i 0))) (drop (i + header_length) s))
    unfolding read_against_area read_area
    tested_parts f =
        rw (w, drop-cons s i 0 h, unspared canonic f, add-one i) (later (read_parts canonic (area_of r) (unpack_header (get_or s i 0)) (drop (suc i) s)))
      where
        unspared : (b : Bool) → (b ≡ true → spare_bits (unpack_header (get_or s i 0)) ≡ false) → cond b (not (spare_bits (unpack_header (get_or s i 0)))) true ≡ true
        unspared true g = rw (g refl)
        unspared false g = refl

        later : (x : Answer AreaValue) → named area_from (shift header_length x) ≡ shift header_length (named area_from x)
        later (accepted v n) = refl
        later (refused k) = refl
