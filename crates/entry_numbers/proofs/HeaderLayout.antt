-- The header of an entry against an entry: packing and taking apart undo each other, and the header that writing gives fits. No law here knows a place or a width.
use Rattle.codec.proofs.Prelude.{◌≡◌, refl, Bool, ℕ, ◌+◌, ◌≤◌, ◌<◌, ◌^◌, arith}
use Rattle.codec.specs.Header.{bits_at, placed, bit, Layout}
use Rattle.codec.proofs.Header.{field_fits, bit_small, flag_of, same_bytes_lem}
use Rattle.compact_u64.proofs.Tags.{min_tag_fits}
use Rattle.entry_numbers.specs.declared.EntryHeader.{EntryHeader}
use Rattle.entry_numbers.specs.Header.{time_tag_width, length_tag_width, namespace_written_at, subspace_written_at, time_added_at, time_tag_at, length_tag_at, unpack_header, pack_header}
use Rattle.entry_numbers.specs.inside.Header.{HeaderFits}
use Rattle.entry_numbers.specs.Numbers.{header_of}

-- the sum of the parts, each a number that fits its bits
abbrev sum : ℕ → ℕ → ℕ → ℕ → ℕ → ℕ
sum n s added t l = placed namespace_written_at 1 n + placed subspace_written_at 1 s + placed time_added_at 1 added + placed time_tag_at time_tag_width t + placed length_tag_at length_tag_width l

record Parts (p n s added t l : ℕ) : Type 0 where
  byte : p < 256
  n_is : bits_at namespace_written_at 1 p ≡ n
  s_is : bits_at subspace_written_at 1 p ≡ s
  added_is : bits_at time_added_at 1 p ≡ added
  t_is : bits_at time_tag_at time_tag_width p ≡ t
  l_is : bits_at length_tag_at length_tag_width p ≡ l

parts : (n s added t l : ℕ) → n ≤ 1 → s ≤ 1 → added ≤ 1 → t < 2 ^ time_tag_width → l < 2 ^ length_tag_width → Parts (sum n s added t l) n s added t l
parts n s added t l a b c d e = record { byte = omega arith; n_is = omega arith; s_is = omega arith; added_is = omega arith; t_is = omega arith; l_is = omega arith }

header_apart : (h : EntryHeader) → HeaderFits h → (pack_header h < 256) × (unpack_header (pack_header h) ≡ h)
header_apart h f =
    let p = pack_header h in
    let x = parts (bit h.namespace_written) (bit h.subspace_written) (bit h.time_added) h.time_tag h.length_tag
    (bit_small h.namespace_written) (bit_small h.subspace_written) (bit_small h.time_added) f.time f.length in (
      x.byte,
      rw (
        flag_of namespace_written_at p h.namespace_written x.n_is,
        flag_of subspace_written_at p h.subspace_written
            x.s_is,
        flag_of time_added_at p h.time_added x.added_is,
        x.t_is,
        x.l_is,
      ),
    )

pub header_layout : Layout HeaderFits unpack_header pack_header
header_layout = record {
  fits = λ b l. record { time = field_fits time_tag_at time_tag_width b; length = field_fits length_tag_at length_tag_width b };
  packs = same_bytes_lem (λ b. pack_header (unpack_header b)) (λ b. b) refl;
  byte = λ h f. (header_apart h f).0;
  unpacks = λ h f. (header_apart h f).1;
}

pub header_fits : (n s : Bool) (r time size : ℕ) → HeaderFits (header_of n s r time size)
unfolding header_of
header_fits n s r time size = record { time = min_tag_fits time_tag_width _ (omega arith); length = min_tag_fits length_tag_width _ (omega arith) }
