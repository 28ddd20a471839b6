-- A path that is read against a well-formed path, or as its extension, is well formed, in either mode.
use Rattle.codec.proofs.Prelude.{◌≡◌, List, ◌++◌, Bool, true, cond, ℕ, arith, eqb, length, take, length-append, length-take-le}
use Rattle.codec.specs.Writings.{All}
use Rattle.codec.specs.Reads.{Yields}
use Rattle.codec.proofs.Yields.{yields_as, then_yields, checked_yields, mapped_yields}
use Rattle.compact_u64.specs.Number.{read_standalone}
use Rattle.path.specs.Record.{Path, components_of, path_from, well_formed, TypedPath}
use Rattle.path.specs.Limits.{total_of, limits, Component, PathOk}
use Rattle.path.specs.Prefix.{shared}
use Rattle.path.proofs.Limits.{total_append, all_append, all_take, limits_total, limits_count}
use Rattle.path.proofs.Record.{well_formed_lem, apart_path, well_made}
use Rattle.path_suffix.proofs.Yields.{suffix_yields}
use Rattle.path_relative.specs.Against.{join_ok, read_against}
use Rattle.path_relative.specs.Extension.{read_extension}
use Rattle.path_relative.specs.Records.{read_against_path}
use Rattle.path_relative.proofs.Against.{join_ok_lem}

pub against_yields : (r : List (List ℕ)) → PathOk r → (canonic : Bool) → Yields (read_against canonic r) PathOk
unfolding read_against
against_yields r wf canonic =
    then_yields (read_standalone canonic) _ (λ k. Unit {0}) PathOk (record { holds = λ s a n h e. tt }) (λ k x.
    yields_as _ _ PathOk (
    checked_yields (λ p. cond canonic (eqb (shared r p) k) true) _ PathOk (
    mapped_yields (λ cs. take k r ++ cs) _ PathOk (
    yields_as _ _ _ (suffix_yields canonic (join_ok r k)) (λ cs y.
    let j = join_ok_lem r k (total_of cs) (length cs) y.limited in
    let l = length-take-le k r j.there in
    record {
      total = rw total_append j.totals;
      count = omega (arith, length-append (take k r) cs, j.counts);
      all = all_append Component (take k r) cs (all_take Component k r wf.all) y.all;
    })))) (λ p y. y.1))

pub extension_yields : (r : List (List ℕ)) → PathOk r → (canonic : Bool) → Yields (read_extension canonic r) PathOk
unfolding read_extension
extension_yields r wf canonic =
    yields_as _ _ PathOk (
    checked_yields (λ p. limits (total_of p) (length p)) _ (All Component) (
    mapped_yields (λ cs. r ++ cs) _ (All Component) (
    yields_as _ _ _ (suffix_yields canonic limits) (λ cs y. all_append Component r cs wf.all y.all)))) (λ p y.
    record { total = limits_total (total_of p) (length p) y.0; count = limits_count (total_of p) (length p) y.0; all = y.1 })

module _ (r : Path) (t : TypedPath r) (w : well_formed r ≡ true) (canonic : Bool) where
  pub against_path_yields : Yields (read_against_path canonic r) (λ p. TypedPath p × (well_formed p ≡ true))
  unfolding read_against_path
  against_path_yields = rw w (mapped_yields path_from _ _ (yields_as _ _ _ (against_yields (components_of r) (apart_path r t (well_formed_lem r w)).ok canonic) well_made))
