-- The laws of a suffix.
use Rattle.codec.proofs.Prelude.{◌≡◌, refl, List, [], ◌∷◌, ◌++◌, Bool, true, false, ℕ, ◌+◌, ◌*◌, ◌≤◌, arith, length, length-append}
use Rattle.codec.specs.Answers.{refused, AllBytes}
use Rattle.codec.specs.Writings.{All}
use Rattle.codec.specs.Reads.{Reads, ReadsBack, Relaxes, Bounded}
use Rattle.codec.proofs.Relations.{Joined, Tested}
use Rattle.codec.proofs.Readers.{reads_as, then_reads, guard_reads}
use Rattle.codec.proofs.Relaxes.{relaxes_back, then_relaxes, guard_relaxes}
use Rattle.codec.proofs.Bytes.{AllBytes-none, AllBytes-cons, AllBytes-append}
use Rattle.codec.proofs.Bounded.{then_bounded, guard_bounded}
use Rattle.compact_u64.specs.Number.{number_bytes, standalone_bytes}
use Rattle.compact_u64.proofs.Tags.{min_tag_fits, AllBytes-number_bytes, number_bytes_short}
use Rattle.compact_u64.proofs.Standalone.{AllBytes-standalone, standalone_short}
use Rattle.path.specs.Limits.{total_of, Component}
use Rattle.path_suffix.specs.Header.{header_length, total_width, count_width, pack_tags}
use Rattle.path_suffix.specs.Suffix.{sized_bytes, component_bytes, sizes_of, tags_of, sizes_bytes, suffix_bytes, read_sizes, read_suffix}
use Rattle.path_suffix.proofs.Relations.{SizesAs, ComponentsAs, SuffixAs}
use Rattle.path_suffix.proofs.Header.{tags_layout, sizes_reads, sizes_relaxes, sizes_bounded}
use Rattle.path_suffix.proofs.Components.{components_reads, components_relaxes, components_bounded}

module _ (within : ℕ → ℕ → Bool) where
  Rel : List (List ℕ) → List ℕ → Type 0
  Rel = Joined SizesAs (λ h. Tested (λ cs. within h.total h.count) (ComponentsAs h.count 0 h.total))

  suffix_there : (cs : List (List ℕ)) (e : List ℕ) → Rel cs e → SuffixAs within cs e
  unfolding Rel suffix_bytes
  suffix_there cs e j =
      let h = j.value in
      let x = j.second.1 in
      let tot : j.value.total ≡ total_of cs = omega (arith, x.sum) in
      let cnt : j.value.count ≡ length cs = omega (arith, x.count) in
      let sizes : j.value ≡ sizes_of cs = λ i. record { total = tot i; count = cnt i } in
      let hd : j.front ≡ sizes_bytes (sizes_of cs) = rw (← sizes) j.first.bytes in
      record { total = rw (← tot) j.first.total; count = rw (← cnt) j.first.count; limited = rw (← tot, ← cnt) j.second.0; all = x.all; bytes = cc }

  suffix_of : (cs : List (List ℕ)) (e : List ℕ) → SuffixAs within cs e → Rel cs e
  unfolding Rel suffix_bytes
  suffix_of cs e s = record {
    value = sizes_of cs;
    front = sizes_bytes (sizes_of cs);
    rear = component_bytes cs;
    whole = s.bytes;
    first = record { total = s.total; count = s.count; bytes = refl };
    second = (s.limited, record { count = refl; all = s.all; sum = omega arith; bytes = refl });
  }

  pub suffix_reads : Reads (read_suffix true within) (SuffixAs within)
  unfolding Rel read_suffix
  suffix_reads = reads_as _ _ _
      (then_reads (read_sizes true) SizesAs _ _ sizes_reads (λ h e x.
      guard_reads (within h.total h.count) _ _ (λ y. components_reads h.count 0 h.total)))
      suffix_there suffix_of

  pub suffix_relaxes : Relaxes (read_suffix true within) (read_suffix false within)
  unfolding read_suffix
  suffix_relaxes =
      then_relaxes (read_sizes true) (read_sizes false) _ _ sizes_relaxes (λ h.
      guard_relaxes (within h.total h.count) (within h.total h.count) _ _ (λ y. y) (λ y.
      components_relaxes h.count 0 h.total))

  pub suffix_back : (canonic : Bool) → ReadsBack (read_suffix canonic within) (SuffixAs within)
  suffix_back true = suffix_reads.back
  suffix_back false = relaxes_back _ _ _ suffix_relaxes suffix_reads.back

  pub suffix_bounded : (canonic : Bool) → Bounded (read_suffix canonic within)
  unfolding read_suffix
  suffix_bounded canonic =
      then_bounded (read_sizes canonic) _ (sizes_bounded canonic) (λ h.
      guard_bounded (within h.total h.count) _ (components_bounded canonic h.count 0 h.total))

  pub suffix_empty : (canonic : Bool) → read_suffix canonic within [] ≡ refused 1
  unfolding read_suffix read_sizes
  suffix_empty canonic = refl

-- how long it may be
components_short : (cs : List (List ℕ)) → length (component_bytes cs) ≤ 9 * length cs + total_of cs
unfolding component_bytes
components_short [] = omega arith
components_short (c ∷ []) = omega arith
components_short (c ∷ d ∷ cs) =
    omega (arith, components_short (d ∷ cs), length-append (sized_bytes c) (component_bytes (d ∷ cs)), length-append (standalone_bytes (length c)) c, standalone_short (length c))

pub suffix_short : (cs : List (List ℕ)) → length (suffix_bytes cs) ≤ header_length + 16 + (9 * length cs + total_of cs)
unfolding suffix_bytes sizes_bytes
suffix_short cs =
    let h = sizes_of cs in
    omega (
      arith,
      components_short cs,
      length-append (sizes_bytes (sizes_of cs)) (component_bytes cs),
      length-append (number_bytes total_width (total_of cs))
          (number_bytes count_width (length cs)),
      number_bytes_short total_width (total_of cs),
      number_bytes_short count_width (length cs),
    )

-- it is made of bytes
components_bytes : (cs : List (List ℕ)) → All Component cs → AllBytes (component_bytes cs)
unfolding component_bytes
components_bytes [] h = AllBytes-none
components_bytes (c ∷ []) h = h.0.bytes
components_bytes (c ∷ d ∷ cs) h =
    AllBytes-append (sized_bytes c) (component_bytes (d ∷ cs)) (AllBytes-append (standalone_bytes (length c)) c (AllBytes-standalone (length c)) h.0.bytes) (components_bytes (d ∷ cs) h.1)

pub AllBytes-suffix : (cs : List (List ℕ)) → All Component cs → AllBytes (suffix_bytes cs)
unfolding suffix_bytes sizes_bytes
AllBytes-suffix cs h =
    let total = total_of cs in
    let count = length cs in
    let byte = tags_layout.byte (tags_of (sizes_of cs)) (record { total = min_tag_fits total_width total (omega arith); count = min_tag_fits count_width count (omega arith) }) in
    let numbers = AllBytes-append (number_bytes total_width total) (number_bytes count_width count) (AllBytes-number_bytes total_width total) (AllBytes-number_bytes count_width count) in
    AllBytes-append (sizes_bytes (sizes_of cs)) (component_bytes cs) (AllBytes-cons (pack_tags (tags_of (sizes_of cs))) (number_bytes total_width total ++ number_bytes count_width count) byte numbers) (components_bytes cs h)
