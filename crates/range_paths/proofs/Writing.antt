-- What the writers' definitions say at each step of the code.
use Rattle.codec.proofs.Prelude.{◌≡◌, refl, sym, ap, ◌∙◌, List, [], ◌++◌, append-nil, Bool, true, false, true≢false, ◌&&◌, ℕ, ◌+◌, ◌*◌, ◌≤◌, ◌<◌, arith, le-leb, lt-leb, length, drop, length-append}
use Rattle.std.specs.Prelude.{Option, Some, None}
use Rattle.codec.specs.Format.{allowed}
use Rattle.codec.proofs.Tests.{and_left, and_right}
use Rattle.compact_u64.specs.Number.{standalone_bytes}
use Rattle.compact_u64.proofs.Standalone.{standalone_short}
use Rattle.path.specs.Record.{Path, components_of, sized}
use Rattle.path.specs.Prefix.{shared}
use Rattle.codec.specs.Answers.{Said, said, unsaid}
use Rattle.path.specs.Answers.{said_if}
use Rattle.path.proofs.Components.{sized_formed, count_is, rest_count, rest_small}
use Rattle.path.proofs.Prefix.{shares}
use Rattle.path.proofs.Verdicts.{said_known, unsaid_known}
use Rattle.path_suffix.specs.inside.Lengths.{max_against_length}
use Rattle.path_suffix.specs.Suffix.{suffix_by}
use Rattle.path_suffix.proofs.Suffix.{suffix_short}
use Rattle.path_relative.specs.Records.{shared_by}
use Rattle.range_3d.specs.declared.Range.{Range}
use Rattle.range_3d.specs.Range3d.{end_named, end_passes}
use Rattle.range_3d.specs.Record.{paths_of, sized_paths}
use Rattle.range_paths.specs.declared.NearPath.{NearPath}
use Rattle.range_paths.specs.declared.MeasuredPaths.{MeasuredPaths}
use Rattle.range_paths.specs.Paths.{nearer, path_bytes, end_bytes, paths_bytes}
use Rattle.range_paths.specs.Records.{near_of, measure_of, measure_in}
use Rattle.range_paths.specs.inside.Writing.{near_in, end_after, both_bytes, EndShares, Shares}

-- ---- tests that fail
first_fails : (a b c : Bool) → (a && c) ≡ false → ((a && b) && c) ≡ false
first_fails true b true e = absurd (true≢false e)
first_fails true true false e = refl
first_fails true false false e = refl
first_fails false b c e = refl

second_fails : (a b c : Bool) → (b && c) ≡ false → ((a && b) && c) ≡ false
second_fails true b c e = e
second_fails false b c e = refl

early_fails : (a b c : Bool) → (a && b) ≡ false → (a && (b && c)) ≡ false
early_fails true true c e = absurd (true≢false e)
early_fails true false c e = refl
early_fails false b c e = refl

late_fails : (a b c : Bool) → (a && c) ≡ false → (a && (b && c)) ≡ false
late_fails true true c e = e
late_fails true false c e = refl
late_fails false b c e = refl

-- ---- the nearer path
abbrev common : Path → Path → Said ℕ
common r p = said_if (sized r && sized p) (shared (components_of r) (components_of p))

module _ (r : Range Path) (p : Path) where
  near_unsized : (sized_paths r && sized p) ≡ false → unsaid 5 ≡ near_in r p
  unfolding near_in
  near_unsized e = rw e

  pub near_no_start : unsaid 5 ≡ common r.start p → unsaid 5 ≡ near_in r p
  near_no_start e = near_unsized (first_fails (sized r.start) (end_passes sized r.end) (sized p) (unsaid_known (sized r.start && sized p) _ 5 e).0)

  near_sized : (n : NearPath) → end_passes sized r.end ≡ true → (sized r.start && sized p) ≡ true → near_of (paths_of r) (components_of p) ≡ n → said n ≡ near_in r p
  unfolding near_in
  near_sized n end both is = rw (end, and_left (sized r.start) (sized p) both, and_right (sized r.start) (sized p) both) (ap said (sym is))

  module _ (a : ℕ) (c : said a ≡ common r.start p) where
    start_known : ((sized r.start && sized p) ≡ true) × (shared (components_of r.start) (components_of p) ≡ a)
    start_known = said_known (sized r.start && sized p) (shared (components_of r.start) (components_of p)) a c

    pub near_open : r.end ≡ None → said (record { from_start = true; shared = a }) ≡ near_in r p
    near_open o = near_sized (record { from_start = true; shared = a }) (rw o refl) start_known.0 (rw (o, start_known.1))

  module _ (end : Path) (o : r.end ≡ Some end) where
    pub near_no_end : unsaid 5 ≡ common end p → unsaid 5 ≡ near_in r p
    near_no_end e = near_unsized (rw o (second_fails (sized r.start) (sized end) (sized p) (unsaid_known (sized end && sized p) _ 5 e).0))

    module _ (a b : ℕ) (c : said a ≡ common r.start p) (d : said b ≡ common end p) where
      end_known : ((sized end && sized p) ≡ true) × (shared (components_of end) (components_of p) ≡ b)
      end_known = said_known (sized end && sized p) (shared (components_of end) (components_of p)) b d

      end_fits : end_passes sized r.end ≡ true
      end_fits = rw o (and_left (sized end) (sized p) end_known.0)

      pub near_start : b ≤ a → said (record { from_start = true; shared = a }) ≡ near_in r p
      near_start h = near_sized (record { from_start = true; shared = a }) end_fits (start_known a c).0 (rw (o, (start_known a c).1, end_known.1, le-leb b a h, (start_known a c).1))

      pub near_end : a < b → said (record { from_start = false; shared = b }) ≡ near_in r p
      near_end h = near_sized (record { from_start = false; shared = b }) end_fits (start_known a c).0 (rw (o, (start_known a c).1, end_known.1, lt-leb b a h, end_known.1))

-- ---- the bytes after what is shared
shared_short : (p : Path) (k : ℕ) → sized p ≡ true → length ((shared_by sized k).encode p) ≤ max_against_length
shared_short p k w =
    let f = sized_formed w in
    omega (arith, length-append (standalone_bytes k) ((suffix_by sized k).encode p), standalone_short k, suffix_short (drop k (components_of p)), rest_count p f k, rest_small p f k, f.well.count)

-- a count that a path shares with another
shared_allowed : (r : List (List ℕ)) (p : Path) (k : ℕ) → sized p ≡ true → shared r (components_of p) ≡ k → (shared_by sized k).check p ≡ allowed
shared_allowed r p k w e = rw (w, le-leb k p.count (omega (arith, (shares r (components_of p)).in_p, e, count_is p (sized_formed w))))

-- what an answer tells
module _ (r : Range Path) (p : Path) (n : NearPath) (e : said n ≡ near_in r p) where
  near_known : ((sized_paths r && sized p) ≡ true) × (near_of (paths_of r) (components_of p) ≡ n)
  unfolding near_in
  near_known = said_known (sized_paths r && sized p) (near_of (paths_of r) (components_of p)) n e

  near_is : near_of (paths_of r) (components_of p) ≡ n
  near_is = near_known.1

  reference_fits : sized_paths r ≡ true
  reference_fits = and_left (sized_paths r) (sized p) near_known.0

  path_fits : sized p ≡ true
  path_fits = and_right (sized_paths r) (sized p) near_known.0

  pub near_allowed : (shared_by sized n.shared).check p ≡ allowed
  near_allowed = shared_allowed (nearer (paths_of r).start (paths_of r).end (components_of p)) p n.shared path_fits (ap (λ (x : NearPath). x.shared) near_is)

  near_bytes : (shared_by sized n.shared).encode p ≡ path_bytes (paths_of r) (components_of p)
  unfolding path_bytes
  near_bytes = rw (← near_is)

not_near : (r : Range Path) (p : Path) → unsaid 5 ≡ near_in r p → (sized_paths r && sized p) ≡ false
unfolding near_in
not_near r p e = (unsaid_known (sized_paths r && sized p) (near_of (paths_of r) (components_of p)) 5 e).0

-- ---- both paths
module _ (r v : Range Path) where
  unmeasured : (sized_paths r && sized_paths v) ≡ false → unsaid 5 ≡ measure_in r v
  unfolding measure_in
  unmeasured e = rw e

  pub no_start : unsaid 5 ≡ near_in r v.start → unsaid 5 ≡ measure_in r v
  no_start e = unmeasured (early_fails (sized_paths r) (sized v.start) (end_passes sized v.end) (not_near r v.start e))

  pub no_end_lem : (end : Path) → v.end ≡ Some end → unsaid 5 ≡ near_in r end → unsaid 5 ≡ measure_in r v
  no_end_lem end o e = unmeasured (rw o (late_fails (sized_paths r) (sized v.start) (sized end) (not_near r end e)))

  measured_by : (m : MeasuredPaths) → sized_paths r ≡ true → sized v.start ≡ true → end_passes sized v.end ≡ true → measure_of (paths_of r) (paths_of v) ≡ m → said m ≡ measure_in r v
  unfolding measure_in
  measured_by m known start end is = rw (known, start, end) (ap said (sym is))

  module _ (s : NearPath) (m : ℕ) (es : said s ≡ near_in r v.start) (em : m ≡ length ((shared_by sized s.shared).encode v.start)) where
    pub measured_open : v.end ≡ None → said (record { start = s; end = None; len = m }) ≡ measure_in r v
    unfolding paths_bytes
    measured_open o =
        let long : length (path_bytes (paths_of r) (components_of v.start) ++ []) ≡ m =
        rw (append-nil (path_bytes (paths_of r) (components_of v.start)), ← (near_bytes r v.start s es)) (sym em) in
        measured_by _ (reference_fits r v.start s es) (path_fits r v.start s es) (rw o refl) (rw (o, near_is r v.start s es, long))

    pub measured_closed : (end : Path) → v.end ≡ Some end → (t : NearPath) (n : ℕ) → said t ≡ near_in r end → n ≡ length ((shared_by sized t.shared).encode end)
        → said (record { start = s; end = Some t; len = m + n }) ≡ measure_in r v
    unfolding paths_bytes
    measured_closed end o t n et en =
        let long : length (path_bytes (paths_of r) (components_of v.start) ++ path_bytes (paths_of r) (components_of end)) ≡ m + n =
        rw (length-append, ← (near_bytes r v.start s es), ← (near_bytes r end t et)) (omega (arith, em, en)) in
        measured_by _ (reference_fits r v.start s es) (path_fits r v.start s es) (rw o (path_fits r end t et)) (rw (o, near_is r v.start s es, near_is r end t et, long))

-- ---- an end, and what was measured of it
module _ (r : Range Path) where
  end_shares : (e : Option Path) → end_passes sized e ≡ true → EndShares e (end_named (near_of (paths_of r)) (end_named components_of e))
  end_shares None fits = tt
  end_shares (Some p) fits = shared_allowed (nearer (paths_of r).start (paths_of r).end (components_of p)) p _ fits refl

  end_told : (e : Option Path) → end_after e (end_named (near_of (paths_of r)) (end_named components_of e)) ≡ end_bytes (paths_of r) (end_named components_of e)
  unfolding path_bytes
  end_told None = refl
  end_told (Some p) = refl

end_short : (e : Option Path) (n : Option NearPath) → end_passes sized e ≡ true → length (end_after e n) ≤ max_against_length
end_short None n fits = omega arith
end_short (Some p) None fits = omega arith
end_short (Some p) (Some n) fits = shared_short p n.shared fits

-- what an answer tells
module _ (r v : Range Path) (m : MeasuredPaths) (e : said m ≡ measure_in r v) where
  told : ((sized_paths r && sized_paths v) ≡ true) × (measure_of (paths_of r) (paths_of v) ≡ m)
  unfolding measure_in
  told = go (sized_paths r && sized_paths v) refl
    where
      go : (b : Bool) → (sized_paths r && sized_paths v) ≡ b → ((sized_paths r && sized_paths v) ≡ true) × (measure_of (paths_of r) (paths_of v) ≡ m)
      go true p = (p, (said_known true (measure_of (paths_of r) (paths_of v)) m (rw p at e)).1)
      go false p = (p ∙ (said_known false (measure_of (paths_of r) (paths_of v)) m (rw p at e)).0, (said_known false (measure_of (paths_of r) (paths_of v)) m (rw p at e)).1)

  pub told_is : measure_of (paths_of r) (paths_of v) ≡ m
  told_is = told.1

  both_fit : sized_paths v ≡ true
  both_fit = and_right (sized_paths r) _ told.0

  start_fits : sized v.start ≡ true
  start_fits = and_left (sized v.start) (end_passes sized v.end) both_fit

  last_fits : end_passes sized v.end ≡ true
  last_fits = and_right (sized v.start) (end_passes sized v.end) both_fit

  pub told_shares : Shares v m
  told_shares = record {
    start = shared_allowed (nearer (paths_of r).start (paths_of r).end (components_of v.start)) v.start m.start.shared start_fits (ap (λ (x : MeasuredPaths). x.start.shared) told_is);
    end = rw (← told_is) (end_shares r v.end last_fits);
  }

  pub told_bytes : both_bytes v m ≡ paths_bytes (paths_of r) (paths_of v)
  unfolding paths_bytes path_bytes
  told_bytes = rw (← told_is) (ap (λ (bs : List ℕ). (shared_by sized (measure_of (paths_of r) (paths_of v)).start.shared).encode v.start ++ bs) (end_told r v.end))

  pub told_long : m.len ≡ length (both_bytes v m)
  told_long = sym (ap length told_bytes ∙ ap (λ (x : MeasuredPaths). x.len) told_is)

  pub told_short : m.len ≤ 2 * max_against_length
  told_short =
      omega (
        arith,
        told_long,
        length-append ((shared_by sized m.start.shared).encode v.start) (end_after v.end m.end),
        shared_short v.start m.start.shared start_fits,
        end_short v.end m.end last_fits,
      )
