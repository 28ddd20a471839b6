-- A path that was read against another: the count of shared components that was told, and that it fits its record.
use Rattle.codec.proofs.Prelude.{◌≡◌, List, ◌++◌, Bool, true, cond, ℕ, arith, eqb, eqb-true, length, take, drop, length-append, length-take-le}
use Rattle.codec.specs.Answers.{accepted}
use Rattle.codec.specs.Reader.{shift, passed, checked, mapped}
use Rattle.codec.specs.Reads.{Yields}
use Rattle.codec.proofs.Readers.{bind_inv, shift_inv, passed_inv}
use Rattle.codec.proofs.Yields.{yields_as, then_yields, checked_yields, mapped_yields}
use Rattle.compact_u64.specs.Number.{read_standalone}
use Rattle.path.specs.Record.{path_from, sized}
use Rattle.path.specs.Limits.{total_of}
use Rattle.path.specs.Prefix.{shared}
use Rattle.path.proofs.Limits.{total_append}
use Rattle.path.proofs.Growing.{sized_from}
use Rattle.path_suffix.specs.Suffix.{read_suffix}
use Rattle.path_suffix.proofs.Yields.{suffix_yields}
use Rattle.path_relative.specs.Against.{join_ok, read_against}
use Rattle.path_relative.proofs.Against.{join_ok_lem}

-- strictly, the count that was told is that of all shared components
pub told_shared : (r : List (List ℕ)) (s : List ℕ) (p : List (List ℕ)) (n : ℕ) → read_against true r s ≡ accepted p n
    → (k : ℕ) × (a : ℕ) × (read_standalone true s ≡ accepted k a) × (shared r p ≡ k)
unfolding read_against
told_shared r s p n e =
    let (k, a, f, g) = bind_inv (read_standalone true s) (λ k m. shift m (checked (λ q. eqb (shared r q) k) (mapped (λ cs. take k r ++ cs) (read_suffix true (join_ok r k))) (drop m s))) p n e in
    let (j, h, _) = shift_inv a (checked (λ q. eqb (shared r q) k) (mapped (λ cs. take k r ++ cs) (read_suffix true (join_ok r k))) (drop a s)) p n g in
    let (q, i, _, t) = bind_inv (mapped (λ cs. take k r ++ cs) (read_suffix true (join_ok r k)) (drop a s)) (λ q m. passed (eqb (shared r q) k) (accepted q m)) p j h in
    let (ok, qp, _) = passed_inv (eqb (shared r q) k) q i p j t in
    (k, a, f, eqb-true (shared r p) k (rw qp at ok))

pub told_fits : (r : List (List ℕ)) (canonic : Bool) → Yields (read_against canonic r) (λ p. sized (path_from p) ≡ true)
unfolding read_against
told_fits r canonic =
    then_yields (read_standalone canonic) _ (λ k. Unit {0}) _ (record { holds = λ s a n h e. tt }) (λ k x.
    yields_as _ _ _ (
    checked_yields (λ p. cond canonic (eqb (shared r p) k) true) _ (λ p. sized (path_from p) ≡ true) (
    mapped_yields (λ cs. take k r ++ cs) _ _ (
    yields_as _ _ _ (suffix_yields canonic (join_ok r k)) (λ cs y.
    let j = join_ok_lem r k (total_of cs) (length cs) y.limited in
    sized_from (take k r ++ cs) (omega (arith, length-append (take k r) cs, length-take-le k r j.there, j.counts)) (rw total_append j.totals))))) (λ p y. y.1))
