-- The header of an area: packing and taking apart undo each other. No law here knows a place or a width.
use Rattle.codec.proofs.Prelude.{◌≡◌, refl, Bool, ℕ, ◌+◌, ◌^◌, ◌≤◌, ◌<◌, arith}
use Rattle.codec.specs.Header.{bits_at, placed, bit, Layout}
use Rattle.codec.proofs.Header.{field_fits, bit_small, flag_of, same_bytes_lem}
use Rattle.compact_u64.proofs.Tags.{min_tag_fits}
use Rattle.grouping.specs.declared.TimeRange.{TimeRange}
use Rattle.area_times.specs.declared.AreaHeader.{AreaHeader}
use Rattle.area_times.specs.Header.{start_tag_width, end_tag_width, id_written_at, end_open_at, start_added_at, end_added_at, start_tag_at, end_tag_at, unpack_header, pack_header}
use Rattle.area_times.specs.inside.Header.{HeaderFits}
use Rattle.area_times.specs.Times.{header_of}

-- the sum of the parts, each a number that fits its bits
abbrev sum : ℕ → ℕ → ℕ → ℕ → ℕ → ℕ → ℕ
sum id opens start end s t =
    placed id_written_at 1 id + placed end_open_at 1 opens + placed start_added_at 1 start + placed end_added_at 1 end + placed start_tag_at start_tag_width s + placed end_tag_at end_tag_width t

record Parts (p id opens start end s t : ℕ) : Type 0 where
  byte : p < 256
  id_is : bits_at id_written_at 1 p ≡ id
  open_is : bits_at end_open_at 1 p ≡ opens
  start_is : bits_at start_added_at 1 p ≡ start
  end_is : bits_at end_added_at 1 p ≡ end
  s_is : bits_at start_tag_at start_tag_width p ≡ s
  t_is : bits_at end_tag_at end_tag_width p ≡ t

parts : (id opens start end s t : ℕ) → id ≤ 1 → opens ≤ 1 → start ≤ 1 → end ≤ 1 → s < 2 ^ start_tag_width → t < 2 ^ end_tag_width → Parts (sum id opens start end s t) id opens start end s t
parts id opens start end s t a b c d f g =
    record { byte = omega arith; id_is = omega arith; open_is = omega arith; start_is = omega arith; end_is = omega arith; s_is = omega arith; t_is = omega arith }

header_apart : (h : AreaHeader) → HeaderFits h → (pack_header h < 256) × (unpack_header (pack_header h) ≡ h)
header_apart h f =
    let p = pack_header h in
    let x = parts (bit h.id_written) (bit h.end_open) (bit h.start_added) (bit h.end_added) h.start_tag h.end_tag
    (bit_small h.id_written) (bit_small h.end_open) (bit_small h.start_added) (bit_small h.end_added) f.start f.end in (
      x.byte,
      rw (
        flag_of id_written_at p h.id_written x.id_is,
        flag_of end_open_at p h.end_open x.open_is,
        flag_of start_added_at p h.start_added x.start_is,
        flag_of end_added_at p h.end_added x.end_is,
        x.s_is,
        x.t_is,
      ),
    )

pub header_layout : Layout HeaderFits unpack_header pack_header
header_layout = record {
  fits = λ b l. record { start = field_fits start_tag_at start_tag_width b; end = field_fits end_tag_at end_tag_width b };
  packs = same_bytes_lem (λ b. pack_header (unpack_header b)) (λ b. b) refl;
  byte = λ h f. (header_apart h f).0;
  unpacks = λ h f. (header_apart h f).1;
}

pub header_fits : (id : Bool) (r t : TimeRange) → HeaderFits (header_of id r t)
unfolding header_of
header_fits id r t = record { start = min_tag_fits start_tag_width _ (omega arith); end = min_tag_fits end_tag_width _ (omega arith) }
