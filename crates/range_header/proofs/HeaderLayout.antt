-- The first header byte of a 3d range: packing and taking apart undo each other. No law here knows a place or a width.
use Rattle.codec.proofs.Prelude.{◌≡◌, refl, ℕ, ◌+◌, ◌≤◌, ◌<◌, ◌^◌, arith}
use Rattle.codec.specs.Header.{bits_at, placed, bit, Layout}
use Rattle.codec.proofs.Header.{bit_small, flag_of, same_bytes_lem}
use Rattle.range_subspaces.specs.declared.IdSource.{IdSource}
use Rattle.range_subspaces.specs.declared.IdSource.TheVariants.{Nowhere, Start, End, Written}
use Rattle.range_header.specs.declared.Range3dHeader.{Range3dHeader}
use Rattle.range_header.specs.Header.{source_width, subspace_start_at, subspace_end_at, path_start_from_start_at, path_end_open_at, path_end_from_start_at, times_end_open_at, source_bits, source_from, unpack_header, pack_header}

-- ---- where an id is taken from
bits_small : (x : IdSource) → source_bits x < 2 ^ source_width
bits_small Nowhere = omega arith
bits_small Start = omega arith
bits_small End = omega arith
bits_small Written = omega arith

source_of : (n : ℕ) (x : IdSource) → n ≡ source_bits x → source_from n ≡ x
source_of n Nowhere e = rw e
source_of n Start e = rw e
source_of n End e = rw e
source_of n Written e = rw e

-- the sum of the parts, each a number that fits its bits
abbrev sum : ℕ → ℕ → ℕ → ℕ → ℕ → ℕ → ℕ
sum s t a b d e =
    placed subspace_start_at source_width s + placed subspace_end_at source_width t + placed path_start_from_start_at 1 a + placed path_end_open_at 1 b + placed path_end_from_start_at 1 d + placed times_end_open_at 1 e

record Parts (p s t a b d e : ℕ) : Type 0 where
  byte : p < 256
  s_is : bits_at subspace_start_at source_width p ≡ s
  t_is : bits_at subspace_end_at source_width p ≡ t
  a_is : bits_at path_start_from_start_at 1 p ≡ a
  b_is : bits_at path_end_open_at 1 p ≡ b
  d_is : bits_at path_end_from_start_at 1 p ≡ d
  e_is : bits_at times_end_open_at 1 p ≡ e

parts : (s t a b d e : ℕ) → s < 2 ^ source_width → t < 2 ^ source_width → a ≤ 1 → b ≤ 1 → d ≤ 1 → e ≤ 1 → Parts (sum s t a b d e) s t a b d e
parts s t a b d e i j k l m n =
    record { byte = omega arith; s_is = omega arith; t_is = omega arith; a_is = omega arith; b_is = omega arith; d_is = omega arith; e_is = omega arith }

header_apart : (h : Range3dHeader) → (pack_header h < 256) × (unpack_header (pack_header h) ≡ h)
header_apart h =
    let p = pack_header h in
    let x = parts (source_bits h.subspace_start) (source_bits h.subspace_end) (bit h.path_start_from_start) (bit h.path_end_open)
    (bit h.path_end_from_start) (bit h.times_end_open)
    (bits_small h.subspace_start) (bits_small h.subspace_end) (bit_small h.path_start_from_start) (bit_small h.path_end_open)
    (bit_small h.path_end_from_start) (bit_small h.times_end_open) in (
      x.byte,
      rw (
        source_of (bits_at subspace_start_at source_width p) h.subspace_start x.s_is,
        source_of (bits_at subspace_end_at source_width p) h.subspace_end x.t_is,
        flag_of path_start_from_start_at p h.path_start_from_start x.a_is,
        flag_of path_end_open_at p h.path_end_open x.b_is,
        flag_of path_end_from_start_at p h.path_end_from_start x.d_is,
        flag_of times_end_open_at p h.times_end_open x.e_is,
      ),
    )

-- every header fits its byte
abbrev pub HeaderFits : Range3dHeader → Type 0
HeaderFits h = Unit {0}

pub header_layout : Layout HeaderFits unpack_header pack_header
header_layout = record {
  fits = λ b l. tt;
  packs = same_bytes_lem (λ b. pack_header (unpack_header b)) (λ b. b) refl;
  byte = λ h f. (header_apart h).0;
  unpacks = λ h f. (header_apart h).1;
}
