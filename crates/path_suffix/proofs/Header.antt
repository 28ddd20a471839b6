-- The header of a suffix, and the sizes after it.
use Rattle.codec.proofs.Prelude.{◌≡◌, refl, List, [], ◌∷◌, ◌++◌, Bool, true, false, ℕ, ◌^◌, ◌<◌, arith}
use Rattle.codec.specs.Header.{bits_at, Layout, read_header}
use Rattle.codec.proofs.Relations.{HeaderAs, Joined, Mapped}
use Rattle.codec.specs.Reader.{one_byte}
use Rattle.codec.specs.Reads.{Reads, Relaxes, Bounded}
use Rattle.codec.proofs.Header.{field_fits, same_bytes_lem, header_reads}
use Rattle.codec.proofs.Readers.{reads_as, then_reads, mapped_reads}
use Rattle.codec.proofs.Relaxes.{relaxes_self, then_relaxes, mapped_relaxes}
use Rattle.codec.proofs.Bounded.{one_byte_bounded, then_bounded, mapped_bounded}
use Rattle.compact_u64.specs.Number.{number_bytes, read_number}
use Rattle.compact_u64.specs.Laws.{NumberAs}
use Rattle.compact_u64.proofs.Tags.{min_tag_fits}
use Rattle.compact_u64.proofs.Number.{number_reads, number_relaxes, number_bounded}
use Rattle.path_suffix.specs.declared.Tags.{Tags}
use Rattle.path_suffix.specs.Header.{total_width, count_width, total_at, count_at, unpack_tags, pack_tags}
use Rattle.path_suffix.specs.inside.Header.{TagsFit}
use Rattle.path_suffix.specs.declared.Sizes.{Sizes}
use Rattle.path_suffix.specs.Suffix.{sizes_from, tags_of, sizes_bytes, read_sizes}
use Rattle.path_suffix.proofs.Relations.{SizesAs}

-- ---- the byte
tags_apart : (t : Tags) → TagsFit t → (pack_tags t < 256) × (unpack_tags (pack_tags t) ≡ t)
tags_apart t f = go t.total t.count f.total f.count
  where
    go : (total count : ℕ) → total < 2 ^ total_width → count < 2 ^ count_width
        → (pack_tags (record { total = total; count = count }) < 256)
        × (unpack_tags (pack_tags (record { total = total; count = count })) ≡ record { total = total; count = count })
    go total count a b =
        let p = pack_tags (record { total = total; count = count }) in
        let x : bits_at total_at total_width p ≡ total = omega arith in
        let y : bits_at count_at count_width p ≡ count = omega arith in
        (omega arith, rw (x, y))

pub tags_layout : Layout TagsFit unpack_tags pack_tags
tags_layout = record {
  fits = λ b l. record { total = field_fits total_at total_width b; count = field_fits count_at count_width b };
  packs = same_bytes_lem (λ b. pack_tags (unpack_tags b)) (λ b. b) refl;
  byte = λ t f. (tags_apart t f).0;
  unpacks = λ t f. (tags_apart t f).1;
}

-- ---- the header and both numbers
Rel : Sizes → List ℕ → Type 0
Rel = Joined (HeaderAs TagsFit pack_tags) (λ tags. Joined (NumberAs total_width tags.total) (λ total. Mapped (sizes_from total) (NumberAs count_width tags.count)))

sizes_there : (h : Sizes) (e : List ℕ) → Rel h e → SizesAs h e
unfolding Rel sizes_bytes
sizes_there h e j =
    let t = j.second in
    let m = t.second in
    rw (← m.named) (record { total = t.first.small; count = m.stands.small; bytes = rw (t.first.tagged, m.stands.tagged) (cc) })

sizes_back : (h : Sizes) (e : List ℕ) → SizesAs h e → Rel h e
unfolding Rel sizes_bytes
sizes_back h e s = record {
  value = tags_of h;
  front = pack_tags (tags_of h) ∷ [];
  rear = number_bytes total_width h.total ++ number_bytes count_width h.count;
  whole = s.bytes;
  first = (record { total = min_tag_fits total_width h.total (omega arith); count = min_tag_fits count_width h.count (omega arith) }, refl);
  second = record {
    value = h.total;
    front = number_bytes total_width h.total;
    rear = number_bytes count_width h.count;
    whole = refl;
    first = record { small = s.total; tagged = refl; bytes = refl };
    second = record { value = h.count; named = refl; stands = record { small = s.count; tagged = refl; bytes = refl } };
  };
}

pub sizes_reads : Reads (read_sizes true) SizesAs
unfolding Rel read_sizes
sizes_reads = reads_as _ _ _
    (then_reads (read_header unpack_tags) (HeaderAs TagsFit pack_tags) _ _ (header_reads TagsFit unpack_tags pack_tags tags_layout) (λ tags e x.
    then_reads (read_number true total_width tags.total) (NumberAs total_width tags.total) _ _ (number_reads total_width tags.total (omega arith) (omega arith)) (λ total e y.
    mapped_reads (sizes_from total) _ _ (number_reads count_width tags.count (omega arith) (omega arith)))))
    sizes_there sizes_back

pub sizes_relaxes : Relaxes (read_sizes true) (read_sizes false)
unfolding read_sizes
sizes_relaxes =
    then_relaxes (read_header unpack_tags) (read_header unpack_tags) _ _ (relaxes_self (read_header unpack_tags)) (λ tags.
    then_relaxes (read_number true total_width tags.total) (read_number false total_width tags.total) _ _ (number_relaxes total_width tags.total) (λ total.
    mapped_relaxes (sizes_from total) _ _ (number_relaxes count_width tags.count)))

pub sizes_bounded : (canonic : Bool) → Bounded (read_sizes canonic)
unfolding read_sizes
sizes_bounded canonic =
    then_bounded (read_header unpack_tags) _ (mapped_bounded unpack_tags one_byte one_byte_bounded) (λ tags.
    then_bounded (read_number canonic total_width tags.total) _ (number_bounded total_width tags.total canonic) (λ total.
    mapped_bounded (sizes_from total) _ (number_bounded count_width tags.count canonic)))
