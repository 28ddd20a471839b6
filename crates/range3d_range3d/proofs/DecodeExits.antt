-- What the readers' definitions answer at each exit of the code.
use Rattle.codec.proofs.Prelude.{◌≡◌, refl, sym, ap, List, [], ◌∷◌, true, false, ℕ, ◌+◌, ◌≤◌, ◌<◌, arith, add-one, length, drop, get_or, length-drop, drop-cons}
use Rattle.std.specs.Prelude.{Ok, Err}
use Rattle.codec.specs.declared.DecodeError.{DecodeError}
use Rattle.codec.specs.Answers.{Answer, accepted, refused, decode_number}
use Rattle.codec.proofs.Answers.{joins_refused, joins_accepted}
use Rattle.codec.specs.Reader.{bind, shift, named, mapped}
use Rattle.codec.specs.Reads.{Bounded}
use Rattle.codec.proofs.Bounded.{then_bounded, mapped_bounded, formed_bounded}
use Rattle.grouping.specs.declared.TimeRange.{TimeRange}
use Rattle.range_3d.specs.declared.Range.{Range}
use Rattle.range_3d.specs.Record.{Range3d, paths_of, paths_from, range_of, range_from, well_formed_range3d, sized_paths}
use Rattle.range_3d.specs.inside.Sizes.{sized_range3d}
use Rattle.range_3d.specs.Range3d.{Range3dValue}
use Rattle.path.specs.Record.{Path, path_from}
use Rattle.path.specs.Flat.{path_in}
use Rattle.range_3d.specs.Answers.{ReadsRange}
use Rattle.range_subspaces.specs.Subspaces.{read_subspaces}
use Rattle.range_subspaces.proofs.Subspaces.{subspaces_bounded}
use Rattle.range_paths.specs.Paths.{read_paths}
use Rattle.range_paths.specs.Records.{read_paths_by, ReadsPaths}
use Rattle.range_paths.proofs.Paths.{paths_bounded}
use Rattle.range_times.specs.Header.{unpack_header as unpackTimes}
use Rattle.range_times.specs.Times.{read_times}
use Rattle.range_times.proofs.Times.{times_bounded}
use Rattle.range_header.specs.declared.Range3dHeader.{Range3dHeader}
use Rattle.range_header.specs.Header.{header_length, unpack_header}
use Rattle.range3d_range3d.specs.Range.{sources_in, sides_in, value_from, read_parts, read_range}
use Rattle.range3d_range3d.specs.Records.{read_against_range}
use Rattle.range3d_range3d.specs.inside.Reading.{read_paths_times, ReadsEnds}

-- ---- a 3d range: both header bytes
module _ (r : Range3d) (s : List ℕ) where
  pub range_unformed : well_formed_range3d r ≡ false → read_against_range r s ≡ refused 5
  unfolding read_against_range
  range_unformed w = rw w

module _ (r : Range3d) (w : well_formed_range3d r ≡ true) (s : List ℕ) (i : ℕ) where
  pub header_cut : length s < i + header_length → read_against_range r (drop i s) ≡ refused 1
  unfolding read_against_range read_range
  header_cut h = rw w (go (drop i s) (omega (arith, length-drop i s)))
    where
      go : (l : List ℕ) → length l < header_length → mapped range_from (read_range (range_of r)) l ≡ refused 1
      go [] h = refl
      go (b ∷ []) h = refl
      go (b ∷ d ∷ l) h = absurd (omega arith)

  pub header_read : i + header_length ≤ length s
      → read_against_range r (drop i s) ≡ shift header_length (mapped range_from (read_parts (range_of r) (unpack_header (get_or s i 0)) (get_or s (i + 1) 0)) (drop (i + header_length) s))
  unfolding read_against_range read_range
  header_read k =
      let at : i + 1 + 1 ≡ i + header_length = omega arith in
      rw (w, drop-cons s i 0 (omega (arith, k)), ← (add-one i), drop-cons s (i + 1) 0 (omega (arith, k)), ← (add-one (i + 1)), at)
      (twice (read_parts (range_of r) (unpack_header (get_or s i 0)) (get_or s (i + 1) 0) (drop (i + header_length) s)))
    where
      twice : (x : Answer Range3dValue) → named range_from (shift 1 (shift 1 x)) ≡ shift header_length (named range_from x)
      twice (accepted v n) = let both : 1 + (1 + n) ≡ header_length + n = omega arith in rw both
      twice (refused k) = refl

-- ---- what follows the header bytes
abbrev pub range_on : Range (List ℕ) → Range Path × TimeRange → Range3d
range_on x v = record { subspaces = x; paths = v.0; times = v.1 }

module _ (r : Range3d) (h : Range3dHeader) (b : ℕ) (s : List ℕ) where
  pub ids_refused : (k : ℕ) → read_subspaces r.subspaces (sources_in h) s ≡ refused k → mapped range_from (read_parts (range_of r) h b) s ≡ refused k
  unfolding read_parts
  ids_refused k e = rw e

  pub subspaces_inside : (x : Range (List ℕ)) (i : ℕ) → read_subspaces r.subspaces (sources_in h) s ≡ accepted x i → i ≤ length s
  subspaces_inside = (subspaces_bounded r.subspaces (sources_in h)).bound s

  pub after_ids : (x : Range (List ℕ)) (i : ℕ) → read_subspaces r.subspaces (sources_in h) s ≡ accepted x i → sized_range3d r ≡ true
      → mapped range_from (read_parts (range_of r) h b) s ≡ shift i (named (range_on x) (read_paths_times r.paths r.times h b (drop i s)))
  unfolding read_parts read_paths_times range_from sized_range3d
  after_ids x i e fit = rw (fit, e) (both (read_paths (paths_of r.paths) h.path_end_open (sides_in h) (drop i s)))
    where
      last : (cs : Range (List (List ℕ))) (j : ℕ) (z : Answer TimeRange)
          → named range_from (shift i (shift j (named (value_from x cs) z))) ≡ shift i (named (range_on x) (shift j (named (λ t. (paths_from cs, t)) z)))
      last cs j (accepted t n) = refl
      last cs j (refused k) = refl

      both : (y : Answer (Range (List (List ℕ))))
          → named range_from (shift i (bind y (λ cs j. shift j (named (value_from x cs) (read_times r.times h.times_end_open (unpackTimes b) (drop j (drop i s)))))))
          ≡ shift i (named (range_on x) (bind (named paths_from y) (λ p j. shift j (named (λ t. (p, t)) (read_times r.times h.times_end_open (unpackTimes b) (drop j (drop i s)))))))
      both (accepted cs j) = last cs j (read_times r.times h.times_end_open (unpackTimes b) (drop j (drop i s)))
      both (refused k) = refl

-- what follows the subspaces
module _ (r : Range Path) (t : TimeRange) (h : Range3dHeader) (b : ℕ) where
  by_bounded : Bounded (read_paths_by sized_paths h.path_end_open (sides_in h) r)
  by_bounded = formed_bounded (sized_paths r) _ (mapped_bounded paths_from _ (paths_bounded (paths_of r) h.path_end_open (sides_in h)))

  pub ends_bounded : Bounded (read_paths_times r t h b)
  unfolding read_paths_times
  ends_bounded =
      then_bounded (read_paths_by sized_paths h.path_end_open (sides_in h) r) _ by_bounded (λ paths.
      mapped_bounded (λ t. (paths, t)) _ (times_bounded t h.times_end_open (unpackTimes b)))

  module _ (s : List ℕ) {p q : Path} where
    pub no_paths : (e : DecodeError) → ReadsPaths h.path_end_open (Err e) p q (read_paths_by sized_paths h.path_end_open (sides_in h) r s) → ReadsEnds h.path_end_open (Err e) p q (read_paths_times r t h b s)
    unfolding read_paths_times
    no_paths e g =
        let empty = g.beside (decode_number e) (sym g.answer) in
        record { reads = joins_refused e (rw (empty.0, empty.1)) (rw (← g.answer)); no_end = g.no_end }

    module _ (n : ℕ) (g : ReadsPaths h.path_end_open (Ok n) p q (read_paths_by sized_paths h.path_end_open (sides_in h) r s)) where
      pub paths_within : n ≤ length s
      paths_within = by_bounded.bound s _ n (sym g.answer)

      pub no_times : (e : DecodeError) {x y : Path} → x ≡ path_from [] → y ≡ path_from [] → refused (decode_number e) ≡ read_times t h.times_end_open (unpackTimes b) (drop n s)
          → ReadsEnds h.path_end_open (Err e) x y (read_paths_times r t h b s)
      unfolding read_paths_times
      no_times e start end f = record { reads = joins_refused e (rw (start, end)) (rw (← g.answer, ← f)); no_end = λ o. end }

      module _ (z : TimeRange) (k : ℕ) (f : accepted z k ≡ read_times t h.times_end_open (unpackTimes b) (drop n s)) where
        pub ends_read : ReadsEnds h.path_end_open (Ok (record { value = z; consumed = n + k })) p q (read_paths_times r t h b s)
        unfolding read_paths_times
        ends_read = record { reads = joins_accepted (record { value = z; consumed = n + k }) (rw (← g.answer, ← f)); no_end = g.no_end }

        pub ends_within : n + k ≤ length s
        ends_within = omega (arith, paths_within, (times_bounded t h.times_end_open (unpackTimes b)).bound (drop n s) z k (sym f), length-drop n s)

-- ---- all of it, the two paths into lent records
pub range_refused : (e : DecodeError) {start end : List ℕ} {x : Answer Range3d} → path_in start ≡ path_from [] → path_in end ≡ path_from [] → refused (decode_number e) ≡ x → ReadsRange (Err e) start end x
range_refused e start end f = record { reads = joins_refused e (rw (start, end)) f; no_end = tt }

module _ (r : Range3d) (fit : sized_range3d r ≡ true) (h : Range3dHeader) (b : ℕ) (s : List ℕ) where
  pub no_ids : {start end : List ℕ} (e : DecodeError) → path_in start ≡ path_from [] → path_in end ≡ path_from [] → refused (decode_number e) ≡ read_subspaces r.subspaces (sources_in h) s
      → ReadsRange (Err e) start end (shift header_length (mapped range_from (read_parts (range_of r) h b) s))
  no_ids e p q f = range_refused e p q (ap (shift header_length) (sym (ids_refused r h b s (decode_number e) (sym f))))

  module _ (x : Range (List ℕ)) (i : ℕ) (f : accepted x i ≡ read_subspaces r.subspaces (sources_in h) s) where
    pub ids_within : i ≤ length s
    ids_within = subspaces_inside r h b s x i (sym f)

    parts_are : shift header_length (mapped range_from (read_parts (range_of r) h b) s) ≡ shift header_length (shift i (named (range_on x) (read_paths_times r.paths r.times h b (drop i s))))
    parts_are = ap (shift header_length) (after_ids r h b s x i (sym f) fit)

    pub no_ends : {start end : List ℕ} (e : DecodeError) → ReadsEnds h.path_end_open (Err e) (path_in start) (path_in end) (read_paths_times r.paths r.times h b (drop i s))
        → ReadsRange (Err e) start end (shift header_length (mapped range_from (read_parts (range_of r) h b) s))
    no_ends e g =
        let empty = g.reads.beside (decode_number e) (sym g.reads.answer) in
        range_refused e (ap (λ (p : Path × Path). p.0) empty) (ap (λ (p : Path × Path). p.1) empty) (rw (parts_are, ← g.reads.answer))

    pub range_read : {start end : List ℕ} (z : TimeRange) (k : ℕ) → ReadsEnds h.path_end_open (Ok (record { value = z; consumed = k })) (path_in start) (path_in end) (read_paths_times r.paths r.times h b (drop i s))
        → ReadsRange (Ok (record { value = record { subspaces = x; end_open = h.path_end_open; times = z }; consumed = header_length + (i + k) })) start end
        (shift header_length (mapped range_from (read_parts (range_of r) h b) s))
    range_read z k g = record { reads = joins_accepted _ (rw (parts_are, ← g.reads.answer)); no_end = g.no_end }

    pub range_within : {y : Range Path × TimeRange} (k : ℕ) → accepted y k ≡ read_paths_times r.paths r.times h b (drop i s) → i + k ≤ length s
    range_within k g = omega (arith, ids_within, (ends_bounded r.paths r.times h b).bound (drop i s) _ k (sym g), length-drop i s)
