-- The header of the times: packing and taking apart undo each other. No law here knows a place or a width.
use Rattle.codec.proofs.Prelude.{◌≡◌, refl, ℕ, ◌+◌, ◌≤◌, ◌<◌, ◌^◌, arith}
use Rattle.codec.specs.Header.{bits_at, placed, bit, Layout}
use Rattle.codec.proofs.Header.{field_fits, bit_small, flag_of, same_bytes_lem}
use Rattle.compact_u64.proofs.Tags.{min_tag_fits}
use Rattle.grouping.specs.declared.TimeRange.{TimeRange}
use Rattle.range_times.specs.declared.RangeTimesHeader.{RangeTimesHeader}
use Rattle.range_times.specs.Header.{start_tag_width, end_tag_width, start_from_start_at, start_added_at, start_tag_at, end_from_start_at, end_added_at, end_tag_at, unpack_header, pack_header}
use Rattle.range_times.specs.inside.Header.{HeaderFits}
use Rattle.range_times.specs.Times.{header_of}

-- the sum of the parts, each a number that fits its bits
abbrev sum : ℕ → ℕ → ℕ → ℕ → ℕ → ℕ → ℕ
sum a b s d e t =
    placed start_from_start_at 1 a + placed start_added_at 1 b + placed start_tag_at start_tag_width s + placed end_from_start_at 1 d + placed end_added_at 1 e + placed end_tag_at end_tag_width t

record Parts (p a b s d e t : ℕ) : Type 0 where
  byte : p < 256
  a_is : bits_at start_from_start_at 1 p ≡ a
  b_is : bits_at start_added_at 1 p ≡ b
  s_is : bits_at start_tag_at start_tag_width p ≡ s
  d_is : bits_at end_from_start_at 1 p ≡ d
  e_is : bits_at end_added_at 1 p ≡ e
  t_is : bits_at end_tag_at end_tag_width p ≡ t

parts : (a b s d e t : ℕ) → a ≤ 1 → b ≤ 1 → s < 2 ^ start_tag_width → d ≤ 1 → e ≤ 1 → t < 2 ^ end_tag_width → Parts (sum a b s d e t) a b s d e t
parts a b s d e t i j k l m n =
    record { byte = omega arith; a_is = omega arith; b_is = omega arith; s_is = omega arith; d_is = omega arith; e_is = omega arith; t_is = omega arith }

header_apart : (h : RangeTimesHeader) → HeaderFits h → (pack_header h < 256) × (unpack_header (pack_header h) ≡ h)
header_apart h f =
    let p = pack_header h in
    let x = parts (bit h.start_from_start) (bit h.start_added) h.start_tag (bit h.end_from_start) (bit h.end_added) h.end_tag
    (bit_small h.start_from_start) (bit_small h.start_added) f.start (bit_small h.end_from_start) (bit_small h.end_added) f.end in (
      x.byte,
      rw (
        flag_of start_from_start_at p h.start_from_start x.a_is,
        flag_of start_added_at p h.start_added x.b_is,
        x.s_is,
        flag_of end_from_start_at p h.end_from_start x.d_is,
        flag_of end_added_at p h.end_added x.e_is,
        x.t_is,
      ),
    )

pub header_layout : Layout HeaderFits unpack_header pack_header
header_layout = record {
  fits = λ b l. record { start = field_fits start_tag_at start_tag_width b; end = field_fits end_tag_at end_tag_width b };
  packs = same_bytes_lem (λ b. pack_header (unpack_header b)) (λ b. b) refl;
  byte = λ h f. (header_apart h f).0;
  unpacks = λ h f. (header_apart h f).1;
}

pub header_fits : (r t : TimeRange) → HeaderFits (header_of r t)
unfolding header_of
header_fits r t = record { start = min_tag_fits start_tag_width _ (omega arith); end = min_tag_fits end_tag_width _ (omega arith) }
