-- The laws of an entry against a namespace and an area, on plain values.
use Rattle.codec.proofs.Prelude.{◌≡◌, refl, ◌∙◌, List, [], ◌∷◌, ◌++◌, Bool, true, false, ℕ, arith, eqb, eqb-true}
use Rattle.std.specs.Prelude.{Some, is_none}
use Rattle.codec.specs.Answers.{refused}
use Rattle.codec.specs.Bytes.{same_bytes, TypedId}
use Rattle.codec.specs.Header.{read_header}
use Rattle.codec.proofs.Relations.{HeaderAs, Tested, Mapped, Joined}
use Rattle.codec.specs.Reader.{checked}
use Rattle.codec.specs.Reads.{Reads, ReadsBack, Relaxes}
use Rattle.codec.proofs.Tests.{and_left, and_right}
use Rattle.codec.proofs.SameBytes.{same_eq, same_refl}
use Rattle.codec.proofs.Header.{header_reads}
use Rattle.codec.proofs.Readers.{reads_as, then_reads, guard_reads, checked_reads, mapped_reads}
use Rattle.codec.proofs.Relaxes.{relaxes_back, relaxes_self, then_relaxes, guard_relaxes, checked_relaxes, mapped_relaxes}
use Rattle.path.specs.Limits.{PathOk}
use Rattle.path.specs.Prefix.{is_prefix}
use Rattle.path.proofs.Limits.{typed_of}
use Rattle.path_relative.specs.Against.{against_bytes, read_against}
use Rattle.path_relative.proofs.Relations.{AgainstAs}
use Rattle.path_relative.proofs.Against.{against_reads, against_relaxes}
use Rattle.grouping.specs.Range.{TypedRange, includes_time}
use Rattle.grouping.specs.Area.{AreaValue, TypedSubspace, includes_subspace}
use Rattle.entry.specs.Entry.{EntryValue, entry_lies_inside}
use Rattle.entry_area_end.specs.declared.EntryAreaHeader.{EntryAreaHeader}
use Rattle.entry_area_end.specs.Header.{unpack_header, pack_header}
use Rattle.entry_area_end.specs.inside.Header.{HeaderFits}
use Rattle.entry_area_end.specs.End.{header_of, end_from}
use Rattle.entry_area_end.proofs.Relations.{EndAs}
use Rattle.entry_area_end.proofs.HeaderLayout.{header_layout, header_fits}
use Rattle.entry_area_end.proofs.Reading.{end_laws}
use Rattle.entry_area.specs.Entry.{id_bytes, after_path_bytes, rest_bytes, entry_bytes, read_id, value_from, read_rest, read_parts, read_entry}
use Rattle.entry_area.specs.Relations.{EntryAs}
use Rattle.entry_area.proofs.Relations.{IdAs}
use Rattle.entry_area.proofs.Id.{id_reads}

abbrev entry_header : AreaValue → EntryValue → EntryAreaHeader
entry_header r v = header_of (is_none r.subspace) r.times v.time v.size

-- ---- lies inside, part by part
pub record Inside (n : List ℕ) (r : AreaValue) (v : EntryValue) : Type 0 where
  pub namespace : same_bytes n v.namespace ≡ true
  pub subspace : includes_subspace r.subspace (Some v.subspace) ≡ true
  pub prefix : is_prefix r.path v.path ≡ true
  pub time : includes_time r.times v.time ≡ true

pub inside : (n : List ℕ) (r : AreaValue) (v : EntryValue) → entry_lies_inside n r v ≡ true → Inside n r v
unfolding entry_lies_inside
inside n r v e =
    let s = and_right (same_bytes n v.namespace) _ e in
    let p = and_right (includes_subspace r.subspace (Some v.subspace)) _ s in
    record { namespace = and_left _ _ e; subspace = and_left _ _ s; prefix = and_left _ _ p; time = and_right (is_prefix r.path v.path) _ p }

inside_of : (n : List ℕ) (r : AreaValue) (v : EntryValue) → Inside n r v → entry_lies_inside n r v ≡ true
unfolding entry_lies_inside
inside_of n r v i = rw (i.namespace, i.subspace, i.prefix, i.time)

-- ---- reading
module _ (n : List ℕ) (r : AreaValue) where
  PartsRel : EntryAreaHeader → EntryValue → List ℕ → Type 0
  PartsRel h = Joined (IdAs r.subspace h.id_written) (λ s. Joined (Tested (is_prefix r.path) (AgainstAs r.path)) (λ p. Mapped (value_from n s p) (EndAs r.times h)))

  Rel : EntryValue → List ℕ → Type 0
  Rel = Joined (HeaderAs HeaderFits pack_header) (λ h. Tested (λ v. eqb h.spare 0) (PartsRel h))

  entry_there : TypedId n → (v : EntryValue) (e : List ℕ) → Rel v e → EntryAs n r v e
  unfolding Rel PartsRel entry_bytes header_of
  entry_there ty v e j =
      let h = j.value in
      let p = j.second.1 in
      let s = p.first in
      let x = p.second.first in
      let m = p.second.second in
      let d = m.stands in
      let w = value_from n p.value p.second.value m.value in
      let is : entry_header r w ≡ h = rw (s.any, d.time.near, d.time.tagged, d.size.tagged, ← (eqb-true h.spare 0 j.second.0)) in
      rw (← m.named) (record {
        typed = record {
          namespace = ty;
          subspace = s.typed;
          path = typed_of p.second.value x.1.ok.all;
          time = omega (arith, d.time.small);
          size = d.size.small;
          digest = (d.digest.0, d.digest.1);
        };
        path = x.1.ok;
        inside = inside_of n r w (record { namespace = same_refl n; subspace = s.inside; prefix = x.0; time = d.time.included });
        bytes = j.whole ∙ rw (j.first.1, p.whole, p.second.whole, s.bytes, x.1.bytes, d.bytes, ← is);
      })

  entry_back : (v : EntryValue) (e : List ℕ) → EntryAs n r v e → Rel v e
  unfolding Rel PartsRel entry_bytes header_of
  entry_back v e x =
      let i = inside n r v x.inside in
      let h = entry_header r v in
      let same : value_from n v.subspace v.path (end_from v.time v.size v.digest) ≡ v = rw (same_eq n v.namespace i.namespace) in
      record {
        value = h;
        front = pack_header h ∷ [];
        rear = id_bytes r.subspace v.subspace ++ rest_bytes r v;
        whole = x.bytes;
        first = (header_fits (is_none r.subspace) r.times v.time v.size, refl);
        second = (
          refl,
          record {
            value = v.subspace;
            front = id_bytes r.subspace v.subspace;
            rear = rest_bytes r v;
            whole = refl;
            first = record { typed = x.typed.subspace; inside = i.subspace; any = refl; bytes = refl };
            second = record {
              value = v.path;
              front = against_bytes r.path v.path;
              rear = after_path_bytes r.times v;
              whole = refl;
              first = (i.prefix, record { ok = x.path; bytes = refl });
              second = record {
                value = end_from v.time v.size v.digest;
                named = same;
                stands = record {
                  time = record { small = omega (arith, x.typed.time); included = i.time; near = refl; tagged = refl; bytes = refl };
                  size = record { small = x.typed.size; tagged = refl; bytes = refl };
                  digest = (x.typed.digest.0, x.typed.digest.1, refl);
                  bytes = refl;
                };
              };
            };
          },
        );
      }

  pub entry_reads : TypedId n → TypedSubspace r.subspace → TypedRange r.times → PathOk r.path → Reads (read_entry true n r) (EntryAs n r)
  unfolding read_entry read_parts read_rest Rel PartsRel
  entry_reads id sub times path = reads_as _ _ _
      (then_reads (read_header unpack_header) (HeaderAs HeaderFits pack_header) _ _ (header_reads HeaderFits unpack_header pack_header header_layout) (λ h e x.
      guard_reads (eqb h.spare 0) _ _ (λ ok.
      then_reads (read_id r.subspace h.id_written) _ _ _ (id_reads r.subspace sub h.id_written) (λ s e y.
      then_reads (checked (is_prefix r.path) (read_against true r.path)) _ _ _ (checked_reads (is_prefix r.path) _ _ (against_reads r.path path)) (λ p e z.
      mapped_reads (value_from n s p) _ _ ((end_laws r.times h).reads times))))))
      (entry_there id) entry_back

  pub entry_relaxes : Relaxes (read_entry true n r) (read_entry false n r)
  unfolding read_entry read_parts read_rest
  entry_relaxes =
      then_relaxes (read_header unpack_header) (read_header unpack_header) _ _ (relaxes_self (read_header unpack_header)) (λ h.
      guard_relaxes (eqb h.spare 0) (eqb h.spare 0) _ _ (λ ok. ok) (λ ok.
      then_relaxes (read_id r.subspace h.id_written) (read_id r.subspace h.id_written) _ _ (relaxes_self _) (λ s.
      then_relaxes (checked (is_prefix r.path) (read_against true r.path)) (checked (is_prefix r.path) (read_against false r.path)) _ _
      (checked_relaxes (is_prefix r.path) (is_prefix r.path) _ _ (λ p q. q) (against_relaxes r.path)) (λ p.
      mapped_relaxes (value_from n s p) _ _ (end_laws r.times h).relaxes))))

  pub entry_empty : (canonic : Bool) → read_entry canonic n r [] ≡ refused 1
  unfolding read_entry
  entry_empty canonic = refl

  pub entry_reads_back : TypedId n → TypedSubspace r.subspace → TypedRange r.times → PathOk r.path → (canonic : Bool) → ReadsBack (read_entry canonic n r) (EntryAs n r)
  entry_reads_back id sub times path true = (entry_reads id sub times path).back
  entry_reads_back id sub times path false = relaxes_back _ _ _ entry_relaxes (entry_reads id sub times path).back
