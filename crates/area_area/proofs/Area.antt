-- The laws of an area against an area, on plain values.
use Rattle.codec.proofs.Prelude.{◌≡◌, refl, ◌∙◌, List, [], ◌∷◌, ◌++◌, Bool, true, false, not, ℕ, not-true}
use Rattle.codec.specs.Answers.{refused}
use Rattle.codec.specs.Header.{read_header}
use Rattle.codec.proofs.Relations.{HeaderAs, Tested, Mapped, Joined}
use Rattle.codec.specs.Reads.{Reads, ReadsBack, Relaxes, Bounded}
use Rattle.codec.proofs.Tests.{and_left, and_right}
use Rattle.codec.proofs.Header.{header_reads}
use Rattle.codec.proofs.Readers.{reads_as, then_reads, guard_reads, mapped_reads}
use Rattle.codec.proofs.Relaxes.{relaxes_back, relaxes_self, then_relaxes, guard_relaxes, mapped_relaxes}
use Rattle.codec.proofs.Bounded.{then_bounded, mapped_bounded}
use Rattle.path.specs.Limits.{PathOk}
use Rattle.path.specs.Prefix.{is_prefix}
use Rattle.path.proofs.Prefix.{prefix_takes, takes_prefix}
use Rattle.path_relative.specs.Extension.{extension_bytes}
use Rattle.path_relative.proofs.Relations.{ExtensionAs}
use Rattle.path_relative.proofs.Extension.{extension_reads, extension_relaxes, extension_bounded}
use Rattle.grouping.specs.Range.{TypedRange, end_value, bounds, includes_range}
use Rattle.grouping.specs.Area.{AreaValue, TypedSubspace, includes_subspace, includes_area, area_lies_inside}
use Rattle.area_times.specs.declared.AreaHeader.{AreaHeader}
use Rattle.area_times.specs.Header.{unpack_header, pack_header, spare_bits}
use Rattle.area_times.specs.inside.Header.{HeaderFits}
use Rattle.area_times.specs.Times.{header_of, times_bytes, read_times}
use Rattle.area_times.proofs.Relations.{TimesAs}
use Rattle.area_times.proofs.HeaderLayout.{header_layout, header_fits}
use Rattle.area_times.proofs.Times.{header_spares, header_is, times_reads, times_relaxes, times_bounded}
use Rattle.area_area.specs.Area.{id_written, subspace_bytes, area_bytes, value_from, read_subspace, read_parts, read_area}
use Rattle.area_area.specs.Relations.{AreaAs}
use Rattle.area_area.proofs.Relations.{SubspaceAs}
use Rattle.area_area.proofs.Subspace.{subspace_reads, subspace_relaxes, subspace_bounded}

abbrev area_header : AreaValue → AreaValue → AreaHeader
area_header r a = header_of (id_written r.subspace a.subspace) r.times a.times

-- ---- lies inside, part by part
pub record Inside (r a : AreaValue) : Type 0 where
  pub subspace : includes_subspace r.subspace a.subspace ≡ true
  pub prefix : is_prefix r.path a.path ≡ true
  pub included : includes_range r.times a.times ≡ true
  pub start : bounds r.times a.times.start ≡ true
  pub end : bounds r.times (end_value a.times.end) ≡ true

pub inside : (r a : AreaValue) → area_lies_inside r a ≡ true → Inside r a
unfolding area_lies_inside includes_area
inside r a e =
    let i = and_left (includes_area r a) _ e in
    let b = and_right (includes_area r a) _ e in
    let p = and_right (includes_subspace r.subspace a.subspace) _ i in
    record {
      subspace = and_left _ _ i;
      prefix = and_left _ _ p;
      included = and_right (is_prefix r.path a.path) _ p;
      start = and_left _ _ b;
      end = and_right (bounds r.times a.times.start) _ b;
    }

inside_of : (r a : AreaValue) → Inside r a → area_lies_inside r a ≡ true
unfolding area_lies_inside includes_area
inside_of r a i = rw (i.subspace, i.prefix, i.included, i.start, i.end)

-- ---- reading
module _ (r : AreaValue) where
  PartsRel : AreaHeader → AreaValue → List ℕ → Type 0
  PartsRel h = Joined (SubspaceAs r.subspace h.id_written) (λ s. Joined (TimesAs r.times h) (λ t. Mapped (value_from s t) (ExtensionAs r.path)))

  Rel : AreaValue → List ℕ → Type 0
  Rel = Joined (HeaderAs HeaderFits pack_header) (λ h. Tested (λ a. not (spare_bits h)) (PartsRel h))

  area_there : (a : AreaValue) (e : List ℕ) → Rel a e → AreaAs r a e
  unfolding Rel PartsRel area_bytes
  area_there a e j =
      let h = j.value in
      let p = j.second.1 in
      let s = p.first in
      let t = p.second.first in
      let m = p.second.second in
      let x = m.stands in
      let v = value_from p.value p.second.value m.value in
      let is : area_header r v ≡ h = header_is (id_written r.subspace v.subspace) r.times v.times h s.id t in
      rw (← m.named) (record {
        typed = s.typed;
        path = x.ok;
        inside = inside_of r v (record { subspace = s.inside; prefix = takes_prefix r.path m.value x.extends; included = t.included; start = t.start; end = t.end });
        bytes = j.whole ∙ rw (j.first.1, p.whole, p.second.whole, s.bytes, t.bytes, x.bytes, is);
      })

  area_back : (a : AreaValue) (e : List ℕ) → AreaAs r a e → Rel a e
  unfolding Rel PartsRel area_bytes header_of
  area_back a e x =
      let i = inside r a x.inside in
      let h = area_header r a in
      record {
        value = h;
        front = pack_header h ∷ [];
        rear = subspace_bytes r.subspace a.subspace ++ (times_bytes r.times a.times ++ extension_bytes r.path a.path);
        whole = x.bytes;
        first = (header_fits (id_written r.subspace a.subspace) r.times a.times, refl);
        second = (
          header_spares (id_written r.subspace a.subspace) r.times a.times,
          record {
            value = a.subspace;
            front = subspace_bytes r.subspace a.subspace;
            rear = times_bytes r.times a.times ++ extension_bytes r.path a.path;
            whole = refl;
            first = record { typed = x.typed; inside = i.subspace; id = refl; bytes = refl };
            second = record {
              value = a.times;
              front = times_bytes r.times a.times;
              rear = extension_bytes r.path a.path;
              whole = refl;
              first = record {
                start_added = refl;
                start_tag = refl;
                end_open = refl;
                end_added = refl;
                end_tag = refl;
                included = i.included;
                start = i.start;
                end = i.end;
                bytes = refl;
              };
              second = record { value = a.path; named = refl; stands = record { ok = x.path; extends = prefix_takes r.path a.path i.prefix; bytes = refl } };
            };
          },
        );
      }

  pub area_reads : TypedSubspace r.subspace → TypedRange r.times → PathOk r.path → Reads (read_area true r) (AreaAs r)
  unfolding read_area read_parts Rel PartsRel
  area_reads sub times path = reads_as _ _ _
      (then_reads (read_header unpack_header) (HeaderAs HeaderFits pack_header) _ _ (header_reads HeaderFits unpack_header pack_header header_layout) (λ h e x.
      guard_reads (not (spare_bits h)) _ _ (λ ok.
      then_reads (read_subspace true r.subspace h.id_written) _ _ _ (subspace_reads r.subspace h.id_written sub) (λ s e y.
      then_reads (read_times true r.times h) _ _ _ (times_reads r.times h times (not-true (spare_bits h) ok)) (λ t e z.
      mapped_reads (value_from s t) _ _ (extension_reads r.path path))))))
      area_there area_back

  pub area_relaxes : Relaxes (read_area true r) (read_area false r)
  unfolding read_area read_parts
  area_relaxes =
      then_relaxes (read_header unpack_header) (read_header unpack_header) _ _ (relaxes_self (read_header unpack_header)) (λ h.
      guard_relaxes (not (spare_bits h)) true _ _ (λ ok. refl) (λ ok.
      then_relaxes (read_subspace true r.subspace h.id_written) (read_subspace false r.subspace h.id_written) _ _ (subspace_relaxes r.subspace h.id_written) (λ s.
      then_relaxes (read_times true r.times h) (read_times false r.times h) _ _ (times_relaxes r.times h) (λ t.
      mapped_relaxes (value_from s t) _ _ (extension_relaxes r.path)))))

  pub parts_bounded : (h : AreaHeader) (canonic : Bool) → Bounded (read_parts canonic r h)
  unfolding read_parts
  parts_bounded h canonic =
      then_bounded (read_subspace canonic r.subspace h.id_written) _ (subspace_bounded r.subspace h.id_written canonic) (λ s.
      then_bounded (read_times canonic r.times h) _ (times_bounded r.times h canonic) (λ t.
      mapped_bounded (value_from s t) _ (extension_bounded r.path canonic)))

  pub area_empty : (canonic : Bool) → read_area canonic r [] ≡ refused 1
  unfolding read_area
  area_empty canonic = refl

  pub area_reads_back : TypedSubspace r.subspace → TypedRange r.times → PathOk r.path → (canonic : Bool) → ReadsBack (read_area canonic r) (AreaAs r)
  area_reads_back sub times path true = (area_reads sub times path).back
  area_reads_back sub times path false = relaxes_back _ _ _ area_relaxes (area_reads sub times path).back
