-- The laws of an extension of a path within the limits.
use Rattle.codec.proofs.Prelude.{◌≡◌, sym, ap, ◌∙◌, List, [], ◌++◌, Bool, true, false, ℕ, ◌+◌, ◌≤◌, arith, length, drop, length-drop, take-append-drop, take-append_seam, drop-append_seam}
use Rattle.codec.specs.Answers.{refused}
use Rattle.codec.specs.Reads.{Reads, ReadsBack, Relaxes, Bounded}
use Rattle.codec.proofs.Relations.{Mapped, Tested}
use Rattle.codec.proofs.Readers.{reads_as, checked_reads, mapped_reads}
use Rattle.codec.proofs.Relaxes.{relaxes_back, checked_relaxes, mapped_relaxes}
use Rattle.codec.proofs.Bounded.{checked_bounded, mapped_bounded}
use Rattle.path.specs.Limits.{max_component_count, max_path_length, total_of, limits, Component, PathOk}
use Rattle.path.proofs.Limits.{total_append, all_append, all_drop, limits_total, limits_count, limits_of}
use Rattle.path_suffix.proofs.Relations.{SuffixAs}
use Rattle.path_suffix.proofs.Suffix.{suffix_reads, suffix_relaxes, suffix_bounded, suffix_empty}
use Rattle.path_relative.specs.Extension.{read_extension}
use Rattle.path_relative.proofs.Relations.{ExtensionAs}

pub extension_relaxes : (r : List (List ℕ)) → Relaxes (read_extension true r) (read_extension false r)
unfolding read_extension
extension_relaxes r =
    checked_relaxes (λ p. limits (total_of p) (length p)) (λ p. limits (total_of p) (length p)) _ _ (λ p h. h) (
    mapped_relaxes (λ cs. r ++ cs) _ _ (suffix_relaxes limits))

pub extension_bounded : (r : List (List ℕ)) (canonic : Bool) → Bounded (read_extension canonic r)
unfolding read_extension
extension_bounded r canonic =
    checked_bounded (λ p. limits (total_of p) (length p)) _ (
    mapped_bounded (λ cs. r ++ cs) _ (suffix_bounded limits canonic))

pub extension_empty : (r : List (List ℕ)) (canonic : Bool) → read_extension canonic r [] ≡ refused 1
unfolding read_extension
extension_empty r canonic = rw (suffix_empty limits canonic)

module _ (r : List (List ℕ)) (wf : PathOk r) where
  extension_there : (p : List (List ℕ)) (e : List ℕ) → Tested (λ p. limits (total_of p) (length p)) (Mapped (λ cs. r ++ cs) (SuffixAs limits)) p e → ExtensionAs r p e
  extension_there p e j = plain j.0 j.1.value j.1.named j.1.stands
    where
      plain : limits (total_of p) (length p) ≡ true → (cs : List (List ℕ)) → r ++ cs ≡ p → SuffixAs limits cs e → ExtensionAs r p e
      plain ok cs pe s = record {
        ok = record {
          total = limits_total (total_of p) (length p) ok;
          count = limits_count (total_of p) (length p) ok;
          all = rw (← pe) (all_append Component r cs wf.all s.all);
        };
        extends = rw (← pe) (take-append_seam r cs);
        bytes = rw (← pe, drop-append_seam) s.bytes;
      }

  extension_of : (p : List (List ℕ)) (e : List ℕ) → ExtensionAs r p e → Tested (λ p. limits (total_of p) (length p)) (Mapped (λ cs. r ++ cs) (SuffixAs limits)) p e
  extension_of p e x =
      let d = drop (length r) p in
      let whole : r ++ drop (length r) p ≡ p = cc (take-append-drop (length r) p, x.extends) in
      let tot : total_of r + total_of d ≡ total_of p = sym (total_append r d) ∙ ap total_of whole in
      let cnt : length d ≤ length p = simp length-drop (omega arith) in
      let t : total_of d ≤ max_path_length = omega (arith, tot, x.ok.total) in
      let c : length d ≤ max_component_count = omega (arith, cnt, x.ok.count) in (
        limits_of (total_of p) (length p) x.ok.total x.ok.count,
        record {
          value = d;
          named = whole;
          stands = record {
            total = omega arith;
            count = omega arith;
            limited = limits_of (total_of d) (length d) t c;
            all = all_drop Component (length r) p x.ok.all;
            bytes = x.bytes;
          };
        },
      )

  pub extension_reads : Reads (read_extension true r) (ExtensionAs r)
  unfolding read_extension
  extension_reads = reads_as _ _ _
      (checked_reads (λ p. limits (total_of p) (length p)) _ _ (
      mapped_reads (λ cs. r ++ cs) _ _ (suffix_reads limits)))
      extension_there extension_of

  pub extension_back : (canonic : Bool) → ReadsBack (read_extension canonic r) (ExtensionAs r)
  extension_back true = extension_reads.back
  extension_back false = relaxes_back _ _ _ (extension_relaxes r) extension_reads.back
