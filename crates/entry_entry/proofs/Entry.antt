-- The laws of an entry against an entry, on plain values.
use Rattle.codec.proofs.Prelude.{◌≡◌, refl, List, [], ◌∷◌, ◌++◌, append_assoc, Bool, true, false, cond, not, ℕ}
use Rattle.codec.specs.Bytes.{same_bytes, TypedId}
use Rattle.codec.specs.Header.{read_header}
use Rattle.codec.specs.Reader.{give, one_byte, some_bytes, and_then, mapped}
use Rattle.codec.specs.Reads.{ReadsAs, Bounded}
use Rattle.codec.proofs.SameBytes.{same_eq}
use Rattle.codec.proofs.Header.{header_reads}
use Rattle.codec.proofs.ReadsAs.{one_of, give_as, bytes_as, then_as, mapped_as}
use Rattle.codec.proofs.Bounded.{give_bounded, one_byte_bounded, some_bytes_bounded, then_bounded, mapped_bounded, choose_bounded}
use Rattle.compact_u64.specs.Number.{U64}
use Rattle.path.specs.Limits.{PathOk}
use Rattle.path_relative.specs.Against.{read_against}
use Rattle.path_relative.proofs.Against.{against_back}
use Rattle.entry.specs.Entry.{EntryValue, TypedEntryValue}
use Rattle.entry_numbers.specs.declared.EntryHeader.{EntryHeader}
use Rattle.entry_numbers.specs.Header.{unpack_header, pack_header}
use Rattle.entry_numbers.specs.inside.Header.{HeaderFits}
use Rattle.entry_numbers.specs.Numbers.{header_of, numbers_from, numbers_bytes, read_numbers}
use Rattle.entry_numbers.proofs.HeaderLayout.{header_layout, header_fits}
use Rattle.entry_numbers.proofs.Reading.{numbers_as, numbers_bounded}
use Rattle.entry_entry.specs.declared.Head.{Head}
use Rattle.entry_entry.specs.Entry.{id_written, entry_header, id_bytes, ids_bytes, after_path_bytes, entry_bytes, read_id, ids_from, read_ids, head_from, read_head, value_from, read_entry}

-- ---- what was written is read back, part by part
id_as : (r id : List ℕ) → TypedId id → ReadsAs (read_id (id_written r id) r) id (id_bytes r id)
unfolding id_written id_bytes
id_as r id t = go (same_bytes id r) refl
  where
    go : (b : Bool) → same_bytes id r ≡ b → ReadsAs (read_id (not b) r) id (cond (not b) id [])
    go true e = rw (same_eq id r e) (give_as r)
    go false e = bytes_as 32 id t.0 t.1

module _ (r v : EntryValue) (t : TypedEntryValue v) where
  ids_as : ReadsAs (read_ids r.namespace r.subspace (entry_header r v)) (ids_from v.namespace v.subspace) (ids_bytes r v)
  unfolding read_ids header_of
  ids_as = then_as (id_as r.namespace v.namespace t.namespace) (λ n. mapped (ids_from n) (read_id (id_written r.subspace v.subspace) r.subspace))
      (mapped_as (id_as r.subspace v.subspace t.subspace) (ids_from v.namespace))

  abbrev head : Head
  head = head_from (ids_from v.namespace v.subspace) (numbers_from v.time v.size)

  head_as : U64 r.time → ReadsAs (read_head r.namespace r.subspace r.time) head (pack_header (entry_header r v) ∷ (ids_bytes r v ++ numbers_bytes r.time v.time v.size))
  unfolding read_head
  head_as k =
      then_as (one_of (header_reads HeaderFits unpack_header pack_header header_layout).back
      (header_fits (id_written r.namespace v.namespace) (id_written r.subspace v.subspace) r.time v.time v.size, refl))
      (λ h. and_then (read_ids r.namespace r.subspace h) (λ i. mapped (head_from i) (read_numbers r.time h)))
      (then_as ids_as (λ i. mapped (head_from i) (read_numbers r.time (entry_header r v)))
      (mapped_as (numbers_as r.time v.time v.size k t.time t.size _ _) (head_from (ids_from v.namespace v.subspace))))

  end_as : PathOk v.path → PathOk r.path → ReadsAs (and_then (read_against false r.path) (λ p. mapped (value_from head p) (some_bytes 32))) v (after_path_bytes r v)
  end_as p q = then_as (one_of (against_back r.path q false) (record { ok = p; bytes = refl })) (λ path. mapped (value_from head path) (some_bytes 32))
      (mapped_as (bytes_as 32 v.digest t.digest.0 t.digest.1) (value_from head v.path))

  pub entry_as : PathOk v.path → U64 r.time → PathOk r.path → ReadsAs (read_entry r) v (entry_bytes r v)
  unfolding read_entry entry_bytes
  entry_as p k q =
      rw (← append_assoc (ids_bytes r v) (numbers_bytes r.time v.time v.size) (after_path_bytes r v))
      (then_as (head_as k) (λ h. and_then (read_against false r.path) (λ p. mapped (value_from h p) (some_bytes 32))) (end_as p q))

-- ---- no more bytes are consumed than there are
id_bounded : (written : Bool) (r : List ℕ) → Bounded (read_id written r)
id_bounded written r = choose_bounded written (some_bytes 32) (give r) (some_bytes_bounded 32) (give_bounded r)

pub ids_bounded : (namespace subspace : List ℕ) (h : EntryHeader) → Bounded (read_ids namespace subspace h)
unfolding read_ids
ids_bounded namespace subspace h =
    then_bounded (read_id h.namespace_written namespace) _ (id_bounded h.namespace_written namespace) (λ n.
    mapped_bounded (ids_from n) _ (id_bounded h.subspace_written subspace))

pub head_bounded : (namespace subspace : List ℕ) (time : ℕ) → Bounded (read_head namespace subspace time)
unfolding read_head
head_bounded namespace subspace time =
    then_bounded (read_header unpack_header) _ (mapped_bounded unpack_header one_byte one_byte_bounded) (λ h.
    then_bounded (read_ids namespace subspace h) _ (ids_bounded namespace subspace h) (λ i.
    mapped_bounded (head_from i) _ (numbers_bounded time h)))
