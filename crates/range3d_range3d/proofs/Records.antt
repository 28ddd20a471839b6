-- 3d ranges against a well-formed 3d range read back. The reader takes more than one writing of a value, so nothing more is claimed.
use Rattle.codec.proofs.Prelude.{◌≡◌, true, ◌&&◌}
use Rattle.codec.specs.Format.{Writes}
use Rattle.codec.specs.Reads.{ReadsAs, ReadsBack}
use Rattle.codec.proofs.Tests.{and_right}
use Rattle.codec.proofs.Lawful.{verdict_allowed}
use Rattle.codec.proofs.ReadsAs.{all_of, mapped_as}
use Rattle.range_3d.specs.Record.{Range3d, range_of, range_from, well_formed_range3d, TypedRange3d}
use Rattle.range_3d.proofs.Record.{paths_ok, made_range}
use Rattle.range3d_range3d.specs.Range.{range_bytes}
use Rattle.range3d_range3d.specs.Records.{against_range, read_against_range}
use Rattle.range3d_range3d.proofs.Range.{range_as}

module _ (r : Range3d) (t : TypedRange3d r) (w : well_formed_range3d r ≡ true) where
  one_back : (v : Range3d) → TypedRange3d v → well_formed_range3d v ≡ true → ReadsAs (read_against_range r) v (range_bytes (range_of r) (range_of v))
  unfolding read_against_range
  one_back v u wv =
      let read = mapped_as (range_as (range_of r) (range_of v) (paths_ok r.paths t.paths w) t.times
      u.subspaces (paths_ok v.paths u.paths wv) u.times) range_from in
      rw w (rw (made_range v u wv) at read)

  pub range_back : ReadsBack (read_against_range r) (Writes TypedRange3d (against_range r))
  range_back = all_of (λ v e x.
      let both = (verdict_allowed (well_formed_range3d r && well_formed_range3d v) true x.valid.allows).0 in
      rw x.bytes (one_back v x.valid.typed (and_right (well_formed_range3d r) _ both)))
