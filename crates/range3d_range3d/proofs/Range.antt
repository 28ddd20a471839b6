-- The laws of a 3d range against a 3d range, on plain values.
use Rattle.codec.proofs.Prelude.{refl, [], ◌∷◌}
use Rattle.codec.specs.Bytes.{TypedId}
use Rattle.codec.specs.Reader.{one_byte, and_then, mapped}
use Rattle.codec.specs.Reads.{ReadsAs}
use Rattle.codec.proofs.Header.{header_reads}
use Rattle.codec.proofs.Readers.{one_byte_reads}
use Rattle.codec.proofs.ReadsAs.{one_of, then_as, mapped_as}
use Rattle.path.specs.Limits.{PathOk}
use Rattle.grouping.specs.declared.TimeRange.{TimeRange}
use Rattle.grouping.specs.Range.{is_open, TypedRange}
use Rattle.range_3d.specs.Range3d.{Range3dValue, Both}
use Rattle.range_subspaces.proofs.Subspaces.{subspaces_as}
use Rattle.range_paths.specs.Paths.{read_paths}
use Rattle.range_paths.proofs.Paths.{paths_as}
use Rattle.range_times.specs.Header.{unpack_header as unpackTimes, pack_header as packTimes}
use Rattle.range_times.specs.Times.{header_of as timesHeader, times_bytes, read_times}
use Rattle.range_times.proofs.HeaderLayout.{header_layout as times-layout, header_fits as times-fit}
use Rattle.range_times.proofs.Times.{times_as}
use Rattle.range_header.specs.Header.{unpack_header, pack_header}
use Rattle.range3d_range3d.specs.Range.{header_of, parts_bytes, range_bytes, sides_in, value_from, read_parts, read_range}
use Rattle.range_header.proofs.HeaderLayout.{HeaderFits, header_layout}

-- ---- what is written is read back

-- the times, after their header byte
module _ (r t : TimeRange) where
  times_here : TypedRange r → TypedRange t → ReadsAs (read_times r (is_open t.end) (unpackTimes (packTimes (timesHeader r t)))) t (times_bytes r t)
  times_here known typed = rw (times-layout.unpacks (timesHeader r t) (times-fit r t)) (times_as r t known typed)

  byte_here : ReadsAs one_byte (packTimes (timesHeader r t)) (packTimes (timesHeader r t) ∷ [])
  byte_here = one_of one_byte_reads.back (times-layout.byte (timesHeader r t) (times-fit r t), refl)

module _ (r v : Range3dValue) (paths : Both PathOk r.paths) (times : TypedRange r.times) (ids : Both TypedId v.subspaces) (ok : Both PathOk v.paths) (typed : TypedRange v.times) where
  parts_as : ReadsAs (read_parts r (header_of r v) (packTimes (timesHeader r.times v.times))) v (parts_bytes r v)
  unfolding read_parts header_of
  parts_as =
      let h = header_of r v in
      let b = packTimes (timesHeader r.times v.times) in
      then_as (subspaces_as r.subspaces v.subspaces ids)
      (λ x. and_then (read_paths r.paths h.path_end_open (sides_in h)) (λ y. mapped (value_from x y) (read_times r.times h.times_end_open (unpackTimes b))))
      (
      then_as (paths_as r.paths v.paths paths ok) (λ y. mapped (value_from v.subspaces y) (read_times r.times h.times_end_open (unpackTimes b))) (
      mapped_as (times_here r.times v.times times typed) (value_from v.subspaces v.paths)))

  pub range_as : ReadsAs (read_range r) v (range_bytes r v)
  unfolding read_range range_bytes
  range_as =
      then_as (one_of (header_reads HeaderFits unpack_header pack_header header_layout).back (tt, refl)) (λ h. and_then one_byte (λ b. read_parts r h b)) (
      then_as (byte_here r.times v.times) (λ b. read_parts r (header_of r v) b) parts_as)
