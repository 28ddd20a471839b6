-- What the definitions answer at each exit of the code.
use Rattle.codec.proofs.Prelude.{◌≡◌, refl, List, ◌++◌, Bool, true, false, cond, ℕ, ◌+◌, ◌≤◌, ◌<◌, arith, eqb, le-leb, lt-leb, length, take, drop, length-append, drop-drop}
use Rattle.codec.specs.Reads.{Bounded}
use Rattle.codec.proofs.Bounded.{checked_bounded, guard_bounded, mapped_bounded}
use Rattle.codec.specs.Answers.{Answer, AllBytes, accepted, refused}
use Rattle.codec.specs.Reader.{bind, shift, named, passed, guard, checked, mapped}
use Rattle.codec.proofs.Bytes.{AllBytes-drop}
use Rattle.compact_u64.specs.Number.{read_standalone}
use Rattle.path.specs.Record.{Path, components_of, path_from}
use Rattle.path.specs.inside.Sizes.{Leads}
use Rattle.path.specs.Limits.{max_component_count, max_path_length, total_of, limits}
use Rattle.path.specs.Prefix.{shared}
use Rattle.path.proofs.Record.{components_of_lem}
use Rattle.path.proofs.Limits.{limits_of, total_append}
use Rattle.path.proofs.Components.{Formed, sized_formed, count_is, prefix_count}
use Rattle.path_suffix.specs.Suffix.{sizes_from, read_sizes, read_components, read_suffix}
use Rattle.path_suffix.proofs.Components.{components_bounded}
use Rattle.path_suffix.proofs.Yields.{components_yields}
use Rattle.path_suffix_decode.specs.After.{read_more, read_after}
use Rattle.path_codec.specs.Plain.{read_path}
use Rattle.path_relative.specs.Against.{join_ok, read_against}
use Rattle.path_relative.specs.Extension.{read_extension}
use Rattle.path_relative.specs.Records.{read_against_by, read_extends_by}
use Rattle.path_relative.specs.inside.Reading.{read_joined}

-- ---- against a path
pub against_malformed : (formed : Path → Bool) (canonic : Bool) (r : Path) (s : List ℕ) → formed r ≡ false → read_against_by formed canonic r s ≡ refused 5
against_malformed formed canonic r s e = rw e

module _ (formed : Path → Bool) (canonic : Bool) (r : Path) (w : formed r ≡ true) (s : List ℕ) (i : ℕ) where
  pub against_first : (e : ℕ) → read_standalone canonic (drop i s) ≡ refused e → read_against_by formed canonic r (drop i s) ≡ refused e
  unfolding read_against
  against_first e f = rw (w, f)

  module _ (k a : ℕ) (f : read_standalone canonic (drop i s) ≡ accepted k a) where
    pub against_sizes : (e : ℕ) → read_sizes canonic (drop (i + a) s) ≡ refused e → read_against_by formed canonic r (drop i s) ≡ refused e
    unfolding read_against read_suffix
    against_sizes e g = rw (w, f, drop-drop, g)

    module _ (total count b : ℕ) (g : read_sizes canonic (drop (i + a) s) ≡ accepted (sizes_from total count) b) where
      pub against_above : length (components_of r) < k → read_against_by formed canonic r (drop i s) ≡ refused 2
      unfolding read_against read_suffix join_ok
      against_above h = rw (w, f, drop-drop, g, lt-leb k (length (components_of r)) h)

      pub against_joined : read_against_by formed canonic r (drop i s) ≡ shift a (shift b (read_joined canonic r k total count (drop (i + a + b) s)))
      unfolding read_against read_suffix read_joined
      against_joined =
          rw (w, f, drop-drop, g, drop-drop)
          (go (join_ok (components_of r) k total count) (read_components canonic count 0 total (drop (i + a + b) s)) refl)
        where
          judged : (t : Bool) (p : List (List ℕ)) (n : ℕ) → named path_from (shift a (passed t (accepted p (b + n)))) ≡ shift a (shift b (passed t (accepted (path_from p) n)))
          judged true p n = refl
          judged false p n = refl

          go : (ok : Bool) (x : Answer (List (List ℕ))) → read_components canonic count 0 total (drop (i + a + b) s) ≡ x
              → named path_from (shift a (bind (named (λ cs. take k (components_of r) ++ cs) (shift b (guard ok (read_components canonic count 0 total) (drop (i + a + b) s))))
              (λ p n. passed (cond canonic (eqb (shared (components_of r) p) k) true) (accepted p n))))
              ≡ shift a (shift b (bind (guard ok (mapped (λ cs. path_from (take k (components_of r) ++ cs)) (read_components canonic count 0 total)) (drop (i + a + b) s))
              (λ p n. passed (cond canonic (eqb (shared (components_of r) (components_of p)) k) true) (accepted p n))))
          go true (accepted cs n) e =
              rw (e, components_of_lem (take k (components_of r) ++ cs))
              (judged (cond canonic (eqb (shared (components_of r) (take k (components_of r) ++ cs)) k) true) (take k (components_of r) ++ cs) n)
          go true (refused k') e = rw e
          go false x e = refl

-- by the reader after the first components of a path
module _ (canonic : Bool) (r : Path) (k : ℕ) (here : Leads r k) (total count : ℕ) (s : List ℕ) where
  pub joined_on : read_joined canonic r k total count s
      ≡ bind (read_after canonic r k total count s) (λ p n. passed (cond canonic (eqb (shared (components_of r) (components_of p)) k) true) (accepted p n))
  unfolding read_joined join_ok read_after read_more
  joined_on =
      let f = sized_formed here.fits in
      rw (here.fits, le-leb k r.count here.there, le-leb k (length (components_of r)) (omega (arith, count_is r f, here.there)), prefix_count r f k here.there)

pub joined_bounded : (canonic : Bool) (r : Path) (k total count : ℕ) → Bounded (read_joined canonic r k total count)
unfolding read_joined
joined_bounded canonic r k total count =
    checked_bounded (λ p. cond canonic (eqb (shared (components_of r) (components_of p)) k) true) _ (
    guard_bounded (join_ok (components_of r) k total count) _ (
    mapped_bounded (λ cs. path_from (take k (components_of r) ++ cs)) _ (
    components_bounded canonic count 0 total)))

-- ---- as an extension
pub extends_unformed : (formed : Path → Bool) (canonic : Bool) (r : Path) (s : List ℕ) → formed r ≡ false → read_extends_by formed canonic r s ≡ refused 5
extends_unformed formed canonic r s e = rw e

module _ (formed : Path → Bool) (canonic : Bool) (r : Path) (w : formed r ≡ true) (f : Formed r) (s : List ℕ) (i : ℕ) where
  pub extends_sizes : (e : ℕ) → read_sizes canonic (drop i s) ≡ refused e → read_extends_by formed canonic r (drop i s) ≡ refused e
  unfolding read_extension read_suffix
  extends_sizes e g = rw (w, g)

  module _ (total count n : ℕ) (g : read_sizes canonic (drop i s) ≡ accepted (sizes_from total count) n) (small : AllBytes s) where
    -- the whole is as long as the sizes say
    whole : (cs : List (List ℕ)) (m : ℕ) → read_components canonic count 0 total (drop (i + n) s) ≡ accepted cs m
        → limits (total_of (components_of r ++ cs)) (length (components_of r ++ cs)) ≡ limits (total_of (components_of r) + total) (r.count + count)
    whole cs m e =
        let y = (components_yields canonic count 0 total).holds (drop (i + n) s) cs m (AllBytes-drop (i + n) s small) e in
        let t : total_of (components_of r ++ cs) ≡ total_of (components_of r) + total = omega (arith, total_append (components_of r) cs, y.sum) in
        let l : length (components_of r ++ cs) ≡ r.count + count = omega (arith, length-append (components_of r) cs, y.count, count_is r f) in
        rw (t, l)

    extends_outside : limits (total_of (components_of r) + total) (r.count + count) ≡ false → read_extends_by formed canonic r (drop i s) ≡ checked (λ p. false) (read_path canonic) (drop i s)
    unfolding read_extension read_path read_suffix
    extends_outside h = rw (w, g, drop-drop) (go (limits total count) (read_components canonic count 0 total (drop (i + n) s)) refl)
      where
        go : (b : Bool) (x : Answer (List (List ℕ))) → read_components canonic count 0 total (drop (i + n) s) ≡ x
            → named path_from (bind (named (λ cs. components_of r ++ cs) (shift n (guard b (read_components canonic count 0 total) (drop (i + n) s))))
            (λ p n. passed (limits (total_of p) (length p)) (accepted p n)))
            ≡ bind (named path_from (shift n (guard b (read_components canonic count 0 total) (drop (i + n) s)))) (λ p n. passed false (accepted p n))
        go true (accepted cs m) e = rw (e, whole cs m e, h)
        go true (refused k) e = rw e
        go false x e = refl

    pub extends_long : max_path_length < total_of (components_of r) + total → read_extends_by formed canonic r (drop i s) ≡ checked (λ p. false) (read_path canonic) (drop i s)
    extends_long h = extends_outside (rw (lt-leb (total_of (components_of r) + total) max_path_length h))

    pub extends_many : total_of (components_of r) + total ≤ max_path_length → max_component_count < r.count + count → read_extends_by formed canonic r (drop i s) ≡ checked (λ p. false) (read_path canonic) (drop i s)
    extends_many h l = extends_outside (rw (le-leb (total_of (components_of r) + total) max_path_length h, lt-leb (r.count + count) max_component_count l))

    pub extends_more : total_of (components_of r) + total ≤ max_path_length → r.count + count ≤ max_component_count → read_extends_by formed canonic r (drop i s) ≡ shift n (read_more canonic (components_of r) total count (drop (i + n) s))
    unfolding read_extension read_suffix read_more
    extends_more h l =
        let fits = limits_of (total_of (components_of r) + total) (r.count + count) h l in
        rw (w, g, drop-drop, limits_of total count (omega arith) (omega arith), count_is r f, fits)
        (go fits (read_components canonic count 0 total (drop (i + n) s)) refl)
      where
        go : limits (total_of (components_of r) + total) (r.count + count) ≡ true → (x : Answer (List (List ℕ))) → read_components canonic count 0 total (drop (i + n) s) ≡ x
            → named path_from (bind (named (λ cs. components_of r ++ cs) (shift n (read_components canonic count 0 total (drop (i + n) s))))
            (λ p n. passed (limits (total_of p) (length p)) (accepted p n)))
            ≡ shift n (named (λ cs. path_from (components_of r ++ cs)) (read_components canonic count 0 total (drop (i + n) s)))
        go fits (accepted cs m) e = rw (e, whole cs m e, fits)
        go fits (refused k) e = rw e
