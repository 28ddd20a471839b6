-- The laws of subspaces against a reference's.
use Rattle.codec.proofs.Prelude.{◌≡◌, refl, ap, List, [], Bool, true, false, cond, false≢true, ℕ}
use Rattle.std.specs.Prelude.{Option, Some, None}
use Rattle.codec.specs.Answers.{AllBytes}
use Rattle.codec.specs.Bytes.{same_bytes, TypedId}
use Rattle.codec.specs.Reader.{give, mapped}
use Rattle.codec.specs.Reads.{ReadsAs, Bounded}
use Rattle.codec.proofs.Bytes.{AllBytes-none, AllBytes-append}
use Rattle.codec.proofs.Once.{Once, all_yield, give_once, some_bytes_once, then_once, guard_once, checked_once, named_once}
use Rattle.codec.proofs.Yields.{mapped_yields}
use Rattle.codec.proofs.Bounded.{give_bounded, some_bytes_bounded, then_bounded, guard_bounded, checked_bounded, mapped_bounded}
use Rattle.codec.proofs.ReadsAs.{give_as, bytes_as, then_as, checked_as, mapped_as}
use Rattle.codec.proofs.SameBytes.{same_eq}
use Rattle.range_3d.specs.declared.Range.{Range}
use Rattle.range_3d.specs.Range3d.{OnEnd, Both}
use Rattle.range_subspaces.specs.declared.IdSource.{IdSource}
use Rattle.range_subspaces.specs.declared.IdSource.TheVariants.{Nowhere, Start, End, Written}
use Rattle.range_subspaces.specs.declared.Sources.{Sources}
use Rattle.range_subspaces.specs.Subspaces.{same_end, source_of, end_source, sources_of, is_written, id_bytes, end_bytes, subspaces_bytes, give_end, read_id, read_end, subspaces_up_to, read_subspaces}

-- ---- what is written is read back
end_named : (e : Option (List ℕ)) (id : List ℕ) → same_end e id ≡ true → ReadsAs (give_end e) id []
end_named None id q = absurd (false≢true q)
end_named (Some end) id q = rw (same_eq id end q) (give_as end)

module _ (r : Range (List ℕ)) where
  id_as : (id : List ℕ) → TypedId id → ReadsAs (read_id r (source_of r id)) id (id_bytes r id)
  unfolding source_of id_bytes
  id_as id t = go (same_bytes id r.start) (same_end r.end id) refl refl
    where
      go : (a b : Bool) → same_bytes id r.start ≡ a → same_end r.end id ≡ b
          → ReadsAs (read_id r (cond a Start (cond b End Written))) id (cond (is_written (cond a Start (cond b End Written))) id [])
      go true b p q = rw (same_eq id r.start p) (give_as r.start)
      go false true p q = end_named r.end id q
      go false false p q = checked_as (bytes_as 32 id t.0 t.1) (λ id. is_written (source_of r id)) (rw (p, q))

  -- an id is taken from somewhere
  some_read : (id : List ℕ) → read_end r (source_of r id) ≡ mapped Some (read_id r (source_of r id))
  unfolding source_of
  some_read id = go (same_bytes id r.start) (same_end r.end id)
    where
      go : (a b : Bool) → read_end r (cond a Start (cond b End Written)) ≡ mapped Some (read_id r (cond a Start (cond b End Written)))
      go true b = refl
      go false true = refl
      go false false = refl

  end_as : (e : Option (List ℕ)) → OnEnd TypedId e → ReadsAs (read_end r (end_source r e)) e (end_bytes r e)
  end_as None t = give_as None
  end_as (Some id) t = rw (some_read id) (mapped_as (id_as id t) Some)

pub subspaces_as : (r v : Range (List ℕ)) → Both TypedId v → ReadsAs (read_subspaces r (sources_of r v)) v (subspaces_bytes r v)
unfolding read_subspaces sources_of subspaces_bytes
subspaces_as r v t =
    then_as (id_as r v.start t.start) (λ start. mapped (subspaces_up_to start) (read_end r (end_source r v.end))) (
    mapped_as (end_as r v.end t.end) (subspaces_up_to v.start))

-- ---- no more is read than there is
given_bounded : (e : Option (List ℕ)) → Bounded (give_end e)
given_bounded None = guard_bounded false (give []) (give_bounded [])
given_bounded (Some id) = give_bounded id

module _ (r : Range (List ℕ)) where
  pub id_bounded : (x : IdSource) → Bounded (read_id r x)
  id_bounded Nowhere = guard_bounded false (give []) (give_bounded [])
  id_bounded Start = give_bounded r.start
  id_bounded End = given_bounded r.end
  id_bounded Written = checked_bounded (λ id. is_written (source_of r id)) _ (some_bytes_bounded 32)

  end_bounded : (x : IdSource) → Bounded (read_end r x)
  end_bounded Nowhere = give_bounded None
  end_bounded Start = mapped_bounded Some _ (id_bounded Start)
  end_bounded End = mapped_bounded Some _ (id_bounded End)
  end_bounded Written = mapped_bounded Some _ (id_bounded Written)

pub subspaces_bounded : (r : Range (List ℕ)) (s : Sources) → Bounded (read_subspaces r s)
unfolding read_subspaces
subspaces_bounded r s = then_bounded (read_id r s.start) _ (id_bounded r s.start) (λ start. mapped_bounded (subspaces_up_to start) _ (end_bounded r s.end))

-- ---- a value is read from one form alone
given_once : (e : Option (List ℕ)) → Once (give_end e)
given_once None = guard_once false (give []) (λ h. give_once [])
given_once (Some id) = give_once id

module _ (r : Range (List ℕ)) where
  id_once : (x : IdSource) → Once (read_id r x)
  id_once Nowhere = guard_once false (give []) (λ h. give_once [])
  id_once Start = give_once r.start
  id_once End = given_once r.end
  id_once Written = checked_once (λ id. is_written (source_of r id)) _ (some_bytes_once 32)

  some_once : (x : IdSource) → Once (mapped Some (read_id r x))
  some_once x = named_once Some _ (λ a b e. cc) (id_once x)

  end_once : (x : IdSource) → Once (read_end r x)
  end_once Nowhere = give_once None
  end_once Start = some_once Start
  end_once End = some_once End
  end_once Written = some_once Written

pub subspaces_once : (r : Range (List ℕ)) (s : Sources) → Once (read_subspaces r s)
unfolding read_subspaces
subspaces_once r s =
    then_once (read_id r s.start) _ (λ v. v.start) (λ start. mapped_yields (subspaces_up_to start) (read_end r s.end) _ (all_yield _ _ (λ e. refl)))
    (id_once r s.start) (λ start.
    named_once (subspaces_up_to start) _ (λ a b e. ap (λ (v : Range (List ℕ)). v.end) e) (end_once r s.end))

-- ---- what is written is made of bytes
id_bytes_lem : (r : Range (List ℕ)) (id : List ℕ) → TypedId id → AllBytes (id_bytes r id)
unfolding id_bytes
id_bytes_lem r id t = go (is_written (source_of r id))
  where
    go : (b : Bool) → AllBytes (cond b id [])
    go true = t.1
    go false = AllBytes-none

pub AllBytes-subspaces : (r v : Range (List ℕ)) → Both TypedId v → AllBytes (subspaces_bytes r v)
unfolding subspaces_bytes
AllBytes-subspaces r v t = AllBytes-append (id_bytes r v.start) (end_bytes r v.end) (id_bytes_lem r v.start t.start) (go v.end t.end)
  where
    go : (e : Option (List ℕ)) → OnEnd TypedId e → AllBytes (end_bytes r e)
    go None h = AllBytes-none
    go (Some id) h = id_bytes_lem r id h
