-- The laws of an area's subspace against the reference's.
use Rattle.codec.proofs.Prelude.{◌≡◌, refl, sym, ap, List, [], Bool, true, false, cond, ◌&&◌, not, true≢false, false≢true, ℕ}
use Rattle.std.specs.Prelude.{Option, Some, None}
use Rattle.codec.specs.Bytes.{same_bytes}
use Rattle.codec.specs.Reader.{give, some_bytes}
use Rattle.codec.specs.Reads.{Reads, Relaxes, Bounded}
use Rattle.codec.proofs.Relations.{Given, SomeBytes, Tested, Mapped, Chosen}
use Rattle.codec.proofs.SameBytes.{same_eq, same_refl}
use Rattle.codec.proofs.Tests.{and_left}
use Rattle.codec.proofs.Readers.{reads_as, choose_reads, mapped_reads, checked_reads, some_bytes_reads, give_reads}
use Rattle.codec.proofs.Relaxes.{relaxes_self, choose_relaxes, mapped_relaxes, checked_relaxes}
use Rattle.codec.proofs.Bounded.{choose_bounded, mapped_bounded, checked_bounded, some_bytes_bounded, give_bounded}
use Rattle.grouping.specs.Area.{TypedSubspace, includes_subspace}
use Rattle.area_area.specs.Area.{id_written, subspace_bytes, same_id, read_subspace}
use Rattle.area_area.proofs.Relations.{SubspaceAs}

-- ---- the reference's own subspace
pub includes_self : (r : Option (List ℕ)) → includes_subspace r r ≡ true
includes_self None = refl
includes_self (Some r) = same_refl r

none_written : (r : Option (List ℕ)) → (id_written r r ≡ false) × (subspace_bytes r r ≡ [])
none_written None = (refl, refl)
none_written (Some r) = (refl, refl)

-- ---- an id
never : (x : Bool) → (x && not x) ≡ true → ⊥
never true e = false≢true e
never false e = false≢true e

Written : Option (List ℕ) → Option (List ℕ) → List ℕ → Type 0
Written r = Mapped Some (Tested (λ id. includes_subspace r (Some id) && not (same_id r id)) (SomeBytes 32))

there : (r : Option (List ℕ)) → TypedSubspace r → (written : Bool) (s : Option (List ℕ)) (e : List ℕ) → Chosen written (Written r) (Given r) s e → SubspaceAs r written s e
unfolding Written
there None ty true s e m = rw (← m.named) (record { typed = (m.stands.1.0, m.stands.1.1); inside = refl; id = refl; bytes = m.stands.1.2 })
there (Some r) ty true s e m = absurd (never (same_bytes r m.value) m.stands.0)
there r ty false s e n = rw (← n.0, n.1) (record { typed = ty; inside = includes_self r; id = (none_written r).0; bytes = sym (none_written r).1 })

back : (r : Option (List ℕ)) (written : Bool) (s : Option (List ℕ)) (e : List ℕ) → SubspaceAs r written s e → Chosen written (Written r) (Given r) s e
unfolding Written
back None true None e a = absurd (false≢true a.id)
back None true (Some id) e a = record { value = id; named = refl; stands = (refl, (a.typed.0, a.typed.1, a.bytes)) }
back (Some r) true s e a = absurd (false≢true a.id)
back None false None e a = (refl, a.bytes)
back None false (Some id) e a = absurd (true≢false a.id)
back (Some r) false None e a = absurd (false≢true a.inside)
back (Some r) false (Some s) e a = (ap Some (same_eq r s a.inside), a.bytes)

module _ (r : Option (List ℕ)) (written : Bool) where
  pub subspace_reads : TypedSubspace r → Reads (read_subspace true r written) (SubspaceAs r written)
  unfolding read_subspace Written
  subspace_reads ty = reads_as _ _ _
      (choose_reads written _ _ _ _
      (mapped_reads Some _ _ (checked_reads (λ id. includes_subspace r (Some id) && not (same_id r id)) _ _ (some_bytes_reads 32)))
      (give_reads r))
      (there r ty written) (back r written)

  pub subspace_relaxes : Relaxes (read_subspace true r written) (read_subspace false r written)
  unfolding read_subspace
  subspace_relaxes =
      choose_relaxes written _ _ _ _
      (mapped_relaxes Some _ _ (
      checked_relaxes (λ id. includes_subspace r (Some id) && not (same_id r id)) (λ id. includes_subspace r (Some id) && true) _ _
      (λ id e. rw (and_left (includes_subspace r (Some id)) _ e)) (relaxes_self (some_bytes 32))))
      (relaxes_self (give r))

  pub subspace_bounded : (canonic : Bool) → Bounded (read_subspace canonic r written)
  unfolding read_subspace
  subspace_bounded canonic =
      choose_bounded written _ _
      (mapped_bounded Some _ (checked_bounded (λ id. includes_subspace r (Some id) && cond canonic (not (same_id r id)) true) _ (some_bytes_bounded 32)))
      (give_bounded r)
