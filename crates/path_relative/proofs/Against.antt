-- The laws of a path against a path within the limits.
use Rattle.codec.proofs.Prelude.{◌≡◌, refl, sym, ap, ◌∙◌, List, [], ◌++◌, Bool, true, false, cond, ℕ, ◌+◌, ◌≤◌, ◌*◌, arith, leb, eqb, leb-true, eqb-true, le-leb, eq-eqb, length, take, drop, length-append, length-drop, take-append-drop, length-take-le, drop_at}
use Rattle.codec.specs.Answers.{refused, AllBytes}
use Rattle.codec.specs.Reads.{Reads, ReadsBack, Relaxes, Bounded}
use Rattle.codec.proofs.Relations.{Joined, Mapped, Tested}
use Rattle.codec.proofs.Readers.{reads_as, then_reads, checked_reads, mapped_reads}
use Rattle.codec.proofs.Relaxes.{relaxes_back, then_relaxes, checked_relaxes, mapped_relaxes}
use Rattle.codec.proofs.Bytes.{AllBytes-append}
use Rattle.codec.proofs.Once.{Once, reads_once}
use Rattle.codec.proofs.Bounded.{then_bounded, checked_bounded, mapped_bounded}
use Rattle.compact_u64.specs.Number.{standalone_bytes, read_standalone}
use Rattle.compact_u64.proofs.Relations.{StandaloneAs}
use Rattle.compact_u64.proofs.Standalone.{standalone_reads, standalone_relaxes, standalone_bounded, standalone_short, AllBytes-standalone}
use Rattle.path.specs.Limits.{max_component_count, max_path_length, total_of, Component, PathOk}
use Rattle.path.specs.Prefix.{shared}
use Rattle.codec.proofs.Tests.{and_left, and_right}
use Rattle.path.proofs.Limits.{total_append, total_split, all_append, all_take, all_drop, limits_total, limits_count, limits_of}
use Rattle.path.proofs.Prefix.{Shares, shares}
use Rattle.path_suffix.specs.Header.{header_length}
use Rattle.path_suffix.specs.Suffix.{suffix_bytes}
use Rattle.path_suffix.proofs.Relations.{SuffixAs}
use Rattle.path_suffix.proofs.Suffix.{suffix_reads, suffix_relaxes, suffix_bounded, suffix_short, AllBytes-suffix}
use Rattle.path_relative.specs.Against.{against_bytes, join_ok, read_against}
use Rattle.path_relative.proofs.Relations.{AgainstAs}

-- ---- the limits of the whole path, as a test and as facts
pub record JoinOk (r : List (List ℕ)) (k total count : ℕ) : Type 0 where
  pub there : k ≤ length r
  pub totals : total_of (take k r) + total ≤ max_path_length
  pub counts : k + count ≤ max_component_count

pub join_ok_lem : (r : List (List ℕ)) (k total count : ℕ) → join_ok r k total count ≡ true → JoinOk r k total count
unfolding join_ok
join_ok_lem r k total count e =
    let l = and_right (leb k (length r)) _ e in
    record { there = leb-true k (length r) (and_left _ _ e); totals = limits_total (total_of (take k r) + total) (k + count) l; counts = limits_count (total_of (take k r) + total) (k + count) l }

pub ok_join : (r : List (List ℕ)) (k total count : ℕ) → JoinOk r k total count → join_ok r k total count ≡ true
unfolding join_ok
ok_join r k total count j = rw (le-leb k (length r) j.there) (limits_of (total_of (take k r) + total) (k + count) j.totals j.counts)

-- ---- reading
pub against_relaxes : (r : List (List ℕ)) → Relaxes (read_against true r) (read_against false r)
unfolding read_against
against_relaxes r =
    then_relaxes (read_standalone true) (read_standalone false) _ _ standalone_relaxes (λ k.
    checked_relaxes (λ p. eqb (shared r p) k) (λ p. true) _ _ (λ p h. refl) (
    mapped_relaxes (λ cs. take k r ++ cs) _ _ (suffix_relaxes (join_ok r k))))

pub against_bounded : (r : List (List ℕ)) (canonic : Bool) → Bounded (read_against canonic r)
unfolding read_against
against_bounded r canonic =
    then_bounded (read_standalone canonic) _ (standalone_bounded canonic) (λ k.
    checked_bounded (λ p. cond canonic (eqb (shared r p) k) true) _ (
    mapped_bounded (λ cs. take k r ++ cs) _ (suffix_bounded (join_ok r k) canonic)))

pub against_empty : (r : List (List ℕ)) (canonic : Bool) → read_against canonic r [] ≡ refused 1
unfolding read_against
against_empty r canonic = refl

-- how long a path against a path may be
pub against_short : (r p : List (List ℕ)) → length (against_bytes r p) ≤ 9 + (header_length + 16 + (9 * length p + total_of p))
against_short r p =
    omega (
      arith,
      length-append (standalone_bytes (shared r p)) (suffix_bytes (drop (shared r p) p)),
      standalone_short (shared r p),
      suffix_short
          (drop (shared r p) p),
      total_split (shared r p) p,
      length-drop (shared r p) p,
    )

pub AllBytes-against : (r p : List (List ℕ)) → PathOk p → AllBytes (against_bytes r p)
AllBytes-against r p ok =
    let k = shared r p in
    AllBytes-append (standalone_bytes k) (suffix_bytes (drop k p)) (AllBytes-standalone k) (AllBytes-suffix (drop k p) (all_drop Component k p ok.all))

module _ (r : List (List ℕ)) (wf : PathOk r) where
  Rel : List (List ℕ) → List ℕ → Type 0
  Rel = Joined StandaloneAs (λ k. Tested (λ p. eqb (shared r p) k) (Mapped (λ cs. take k r ++ cs) (SuffixAs (join_ok r k))))

  against_there : (p : List (List ℕ)) (e : List ℕ) → Rel p e → AgainstAs r p e
  unfolding Rel
  against_there p e j =
      let m = j.second.1 in
      plain j.value m.value j.front j.rear j.whole j.first (eqb-true (shared r p) j.value j.second.0) m.named m.stands
    where
      plain : (k : ℕ) (cs : List (List ℕ)) (f b : List ℕ) → e ≡ f ++ b → StandaloneAs k f → shared r p ≡ k → take k r ++ cs ≡ p → SuffixAs (join_ok r k) cs b → AgainstAs r p e
      plain k cs f b w a sk pe s =
          let j = join_ok_lem r k (total_of cs) (length cs) s.limited in
          let l : length (take k r) ≡ k = length-take-le k r j.there in
          let d : drop k p ≡ cs = rw (← pe) (drop_at (take k r) cs k l) in
          record {
            ok = rw (← pe) (record {
              total = rw total_append j.totals;
              count = simp length-append (omega (arith, j.counts));
              all = all_append Component (take k r) cs (all_take Component k r wf.all) s.all;
            });
            bytes = rw (sk, d) (cc (a.bytes, s.bytes));
          }

  against_of : (p : List (List ℕ)) (e : List ℕ) → AgainstAs r p e → Rel p e
  unfolding Rel
  against_of p e a = plain (shared r p) refl (shares r p)
    where
      plain : (k : ℕ) → shared r p ≡ k → Shares r p k → Rel p e
      plain k sk s =
          let same = s.same in
          let whole : take k r ++ drop k p ≡ p = rw same (take-append-drop k p) in
          let tot : total_of (take k r) + total_of (drop k p) ≡ total_of p = sym (total_append (take k r) (drop k p)) ∙ ap total_of whole in
          let cnt : k + length (drop k p) ≡ length p = simp length-drop (omega (arith, s.in_p)) in
          record {
            value = k;
            front = standalone_bytes k;
            rear = suffix_bytes (drop k p);
            whole = rw (← sk) a.bytes;
            first = record { small = omega (arith, s.in_p, a.ok.count); bytes = refl };
            second = (
              eq-eqb (shared r p) k sk,
              record {
                value = drop k p;
                named = whole;
                stands = record {
                  total = omega (arith, tot, a.ok.total);
                  count = omega (arith, cnt, a.ok.count);
                  limited = ok_join r k (total_of (drop k p)) (length (drop k p)) (record { there = s.in_r; totals = omega (arith, tot, a.ok.total); counts = omega (arith, cnt, a.ok.count) });
                  all = all_drop Component k p a.ok.all;
                  bytes = refl;
                };
              },
            );
          }

  pub against_reads : Reads (read_against true r) (AgainstAs r)
  unfolding Rel read_against
  against_reads = reads_as _ _ _
      (then_reads (read_standalone true) StandaloneAs _ _ standalone_reads (λ k e x.
      checked_reads (λ p. eqb (shared r p) k) _ _ (
      mapped_reads (λ cs. take k r ++ cs) _ _ (suffix_reads (join_ok r k)))))
      against_there against_of

  pub against_once : Once (read_against true r)
  against_once = reads_once _ _ against_reads (λ p e d x y. x.bytes ∙ sym y.bytes)

  pub against_back : (canonic : Bool) → ReadsBack (read_against canonic r) (AgainstAs r)
  against_back true = against_reads.back
  against_back false = relaxes_back _ _ _ (against_relaxes r) against_reads.back
