-- What comparing a lent path with its reference tells the writers, and what a test of the whole records leaves of one of their sizes.
use Rattle.codec.proofs.Prelude.{◌≡◌, sym, ap, ◌∙◌, true, ◌&&◌, ℕ, ◌≤◌, arith, eqb-true, le-leb, length, drop}
use Rattle.std.specs.Prelude.{List, Result}
use Rattle.codec.specs.declared.EncodeError.{EncodeError}
use Rattle.codec.specs.Format.{allowed, refused_value, length_by, length_answer, WritesInto}
use Rattle.codec.proofs.Lending.{length_told, length_stopped, length_refused_value, same_length, same_writing, writes_into}
use Rattle.path.specs.Record.{Path, components_of, sized, well_formed}
use Rattle.path.specs.Prefix.{shared, is_prefix}
use Rattle.codec.specs.Answers.{Outcome, wrote, refused_writing, encode_number, said, unsaid}
use Rattle.path.specs.Answers.{said_if}
use Rattle.codec.proofs.Tests.{and_left, and_right}
use Rattle.path.proofs.Components.{sized_formed, well_sized, count_is, rest_count, rest_small}
use Rattle.path.proofs.Prefix.{shares}
use Rattle.path.proofs.Verdicts.{said_known, unsaid_known}
use Rattle.codec.proofs.Lawful.{verdict_allowed}
use Rattle.path_suffix.specs.inside.Lengths.{max_suffix_length}
use Rattle.path_suffix.proofs.Suffix.{suffix_short}
use Rattle.path_suffix.specs.Suffix.{suffix_bytes, suffix_by}
use Rattle.path_relative.specs.Records.{shared_by, extends_by, against_path, extends_path}

module _ (r p : Path) where
  both_sized : (well_formed r && well_formed p) ≡ true → (sized r && sized p) ≡ true
  both_sized w = rw (well_sized r (and_left (well_formed r) (well_formed p) w)) (well_sized p (and_right (well_formed r) (well_formed p) w))

  -- ---- the shared components
  pub uncommon_refused_value : unsaid 5 ≡ said_if (well_formed r && well_formed p) (shared (components_of r) (components_of p)) → (against_path r).check p ≡ refused_value 5
  uncommon_refused_value e = rw (unsaid_known (well_formed r && well_formed p) (shared (components_of r) (components_of p)) 5 e).0

  module _ (k : ℕ) (e : said k ≡ said_if (well_formed r && well_formed p) (shared (components_of r) (components_of p))) where
    both : (well_formed r && well_formed p) ≡ true
    both = (said_known (well_formed r && well_formed p) (shared (components_of r) (components_of p)) k e).0

    is : shared (components_of r) (components_of p) ≡ k
    is = (said_known (well_formed r && well_formed p) (shared (components_of r) (components_of p)) k e).1

    fits : sized p ≡ true
    fits = and_right (sized r) (sized p) (both_sized both)

    there : k ≤ p.count
    there = omega (arith, (shares (components_of r) (components_of p)).in_p, is, count_is p (sized_formed fits))

    pub rest_allowed : (suffix_by sized k).check p ≡ allowed
    rest_allowed = rw (fits, le-leb k p.count there)

    -- the path against the reference is that
    pub shared_against : ((shared_by sized k).check p ≡ (against_path r).check p) × ((shared_by sized k).encode p ≡ (against_path r).encode p)
    shared_against = (rest_allowed ∙ rw both, rw is)

  -- ---- a prefix, by the count that its test told
  module _ (n : ℕ) (told : wrote n ≡ length_by ((extends_by sized r).check p) r.count) where
    prefixed : ((extends_by sized r).check p ≡ allowed) × (n ≡ r.count)
    prefixed = length_told ((extends_by sized r).check p) r.count n told

    tests : ((sized r && sized p) ≡ true) × (is_prefix (components_of r) (components_of p) ≡ true)
    tests = verdict_allowed (sized r && sized p) (is_prefix (components_of r) (components_of p)) prefixed.0

    long : length (components_of r) ≡ r.count
    long = count_is r (sized_formed (and_left (sized r) (sized p) tests.0))

    all-shared : shared (components_of r) (components_of p) ≡ length (components_of r)
    unfolding is_prefix
    all-shared = eqb-true (shared (components_of r) (components_of p)) (length (components_of r)) tests.1

    within : r.count ≤ p.count
    within = omega (arith, long, all-shared, (shares (components_of r) (components_of p)).in_p, count_is p (sized_formed (and_right (sized r) (sized p) tests.0)))

    -- a path that the reference is a prefix of is written as the suffix after it
    extends_suffix : ((suffix_by sized n).check p ≡ (extends_by sized r).check p) × ((suffix_by sized n).encode p ≡ (extends_by sized r).encode p)
    extends_suffix =
        let left : (suffix_by sized r.count).check p ≡ allowed = rw (and_right (sized r) (sized p) tests.0, le-leb r.count p.count within) in
        rw prefixed.1 (left ∙ sym prefixed.0, ap (λ (k : ℕ). suffix_bytes (drop k (components_of p))) (sym long))

    pub extends_length : {o : Outcome} → o ≡ length_answer (suffix_by sized n) p → o ≡ length_answer (extends_by sized r) p
    extends_length e = e ∙ same_length (suffix_by sized n) p (extends_by sized r) extends_suffix.0 extends_suffix.1

    pub extends_written : {e : Result ℕ EncodeError} {l left : List ℕ} → WritesInto (suffix_by sized n) p e l left → WritesInto (extends_by sized r) p e l left
    extends_written {l = l} put =
        let w = same_writing (suffix_by sized n) p (extends_by sized r) extends_suffix.0 extends_suffix.1 l in
        writes_into (put.answer ∙ w.0, put.buffer ∙ w.1)

  -- a refusal that the test of the prefix told
  pub extends_refused : (e : EncodeError) → refused_writing (encode_number e) ≡ length_by ((extends_by sized r).check p) r.count → refused_writing (encode_number e) ≡ length_answer (extends_by sized r) p
  extends_refused e told = length_refused_value (extends_by sized r) p (encode_number e) (length_stopped ((extends_by sized r).check p) r.count (encode_number e) told)

  pub extends_short : (extends_by sized r).check p ≡ allowed → length ((extends_by sized r).encode p) ≤ max_suffix_length
  extends_short ok =
      let both = (verdict_allowed (sized r && sized p) (is_prefix (components_of r) (components_of p)) ok).0 in
      let f = sized_formed (and_right (sized r) (sized p) both) in
      let k = length (components_of r) in
      omega (arith, suffix_short (drop k (components_of p)), rest_count p f k, rest_small p f k, f.well.count)

  -- records that were tested whole
  pub extends_whole : (well_formed r && well_formed p) ≡ true → (extends_by sized r).check p ≡ (extends_path r).check p
  extends_whole w = rw (both_sized w, w)
