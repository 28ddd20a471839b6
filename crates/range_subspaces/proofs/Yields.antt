-- Ids that are read are ids.
use Rattle.codec.proofs.Prelude.{List, [], false, false≢true, ℕ}
use Rattle.std.specs.Prelude.{Option, Some, None}
use Rattle.codec.specs.Bytes.{TypedId}
use Rattle.codec.specs.Reader.{give, some_bytes, guard}
use Rattle.codec.specs.Reads.{Yields}
use Rattle.codec.proofs.Yields.{yields_as, give_yields, some_bytes_yields, then_yields, guard_yields, checked_yields, mapped_yields}
use Rattle.range_3d.specs.declared.Range.{Range}
use Rattle.range_3d.specs.Range3d.{OnEnd, Both}
use Rattle.range_subspaces.specs.declared.IdSource.{IdSource}
use Rattle.range_subspaces.specs.declared.IdSource.TheVariants.{Nowhere, Start, End, Written}
use Rattle.range_subspaces.specs.declared.Sources.{Sources}
use Rattle.range_subspaces.specs.Subspaces.{source_of, is_written, give_end, read_id, read_end, subspaces_up_to, read_subspaces}

nothing : Yields (guard false (give [])) TypedId
nothing = guard_yields false (give []) TypedId (λ ok. absurd (false≢true ok))

given : (id : List ℕ) → TypedId id → Yields (give id) TypedId
given id k = yields_as (give id) _ TypedId (give_yields id) (λ s e. rw (← e) k)

given_end : (e : Option (List ℕ)) → OnEnd TypedId e → Yields (give_end e) TypedId
given_end None k = nothing
given_end (Some id) k = given id k

module _ (r : Range (List ℕ)) (t : Both TypedId r) where
  id_yields : (s : IdSource) → Yields (read_id r s) TypedId
  id_yields Nowhere = nothing
  id_yields Start = given r.start t.start
  id_yields End = given_end r.end t.end
  id_yields Written = yields_as _ _ TypedId (checked_yields (λ id. is_written (source_of r id)) (some_bytes 32) _ (some_bytes_yields 32)) (λ id x. x.1)

  end_yields : (s : IdSource) → Yields (read_end r s) (OnEnd TypedId)
  end_yields Nowhere = yields_as (give None) _ _ (give_yields None) (λ e q. rw (← q) tt)
  end_yields Start = mapped_yields Some _ (OnEnd TypedId) (id_yields Start)
  end_yields End = mapped_yields Some _ (OnEnd TypedId) (id_yields End)
  end_yields Written = mapped_yields Some _ (OnEnd TypedId) (id_yields Written)

  pub subspaces_yields : (s : Sources) → Yields (read_subspaces r s) (Both TypedId)
  unfolding read_subspaces
  subspaces_yields s =
      then_yields (read_id r s.start) _ TypedId (Both TypedId) (id_yields s.start) (λ a ta.
      mapped_yields (subspaces_up_to a) _ (Both TypedId) (yields_as _ (OnEnd TypedId) _ (end_yields s.end) (λ e te. record { start = ta; end = te })))
