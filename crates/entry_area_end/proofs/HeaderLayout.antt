-- The header of an entry: packing and taking apart undo each other. No law here knows a place or a width.
use Rattle.codec.proofs.Prelude.{◌≡◌, refl, Bool, ℕ, ◌+◌, ◌^◌, ◌≤◌, ◌<◌, arith}
use Rattle.codec.specs.Header.{bits_at, placed, bit, Layout}
use Rattle.codec.proofs.Header.{field_fits, bit_small, flag_of, same_bytes_lem}
use Rattle.compact_u64.proofs.Tags.{min_tag_fits}
use Rattle.grouping.specs.declared.TimeRange.{TimeRange}
use Rattle.entry_area_end.specs.declared.EntryAreaHeader.{EntryAreaHeader}
use Rattle.entry_area_end.specs.Header.{time_tag_width, length_tag_width, spare_width, id_written_at, time_added_at, time_tag_at, length_tag_at, spare_at, unpack_header, pack_header}
use Rattle.entry_area_end.specs.inside.Header.{HeaderFits}
use Rattle.entry_area_end.specs.End.{header_of}

-- the sum of the parts, each a number that fits its bits
abbrev sum : ℕ → ℕ → ℕ → ℕ → ℕ → ℕ
sum id added s t u = placed id_written_at 1 id + placed time_added_at 1 added + placed time_tag_at time_tag_width s + placed length_tag_at length_tag_width t + placed spare_at spare_width u

record Parts (p id added s t u : ℕ) : Type 0 where
  byte : p < 256
  id_is : bits_at id_written_at 1 p ≡ id
  added_is : bits_at time_added_at 1 p ≡ added
  s_is : bits_at time_tag_at time_tag_width p ≡ s
  t_is : bits_at length_tag_at length_tag_width p ≡ t
  u_is : bits_at spare_at spare_width p ≡ u

parts : (id added s t u : ℕ) → id ≤ 1 → added ≤ 1 → s < 2 ^ time_tag_width → t < 2 ^ length_tag_width → u < 2 ^ spare_width → Parts (sum id added s t u) id added s t u
parts id added s t u a b c d e = record { byte = omega arith; id_is = omega arith; added_is = omega arith; s_is = omega arith; t_is = omega arith; u_is = omega arith }

header_apart : (h : EntryAreaHeader) → HeaderFits h → (pack_header h < 256) × (unpack_header (pack_header h) ≡ h)
header_apart h f =
    let p = pack_header h in
    let x = parts (bit h.id_written) (bit h.time_added) h.time_tag h.length_tag h.spare
    (bit_small h.id_written) (bit_small h.time_added) f.time f.length f.spare in (
      x.byte,
      rw (flag_of id_written_at p h.id_written x.id_is, flag_of time_added_at p h.time_added x.added_is, x.s_is, x.t_is, x.u_is),
    )

pub header_layout : Layout HeaderFits unpack_header pack_header
header_layout = record {
  fits = λ b l. record { time = field_fits time_tag_at time_tag_width b; length = field_fits length_tag_at length_tag_width b; spare = field_fits spare_at spare_width b };
  packs = same_bytes_lem (λ b. pack_header (unpack_header b)) (λ b. b) refl;
  byte = λ h f. (header_apart h f).0;
  unpacks = λ h f. (header_apart h f).1;
}

pub header_fits : (id : Bool) (r : TimeRange) (time size : ℕ) → HeaderFits (header_of id r time size)
unfolding header_of
header_fits id r time size = record { time = min_tag_fits time_tag_width _ (omega arith); length = min_tag_fits length_tag_width _ (omega arith); spare = omega arith }
