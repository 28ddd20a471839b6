-- docs/FORMAT.md, "3d ranges": 3d ranges against a 3d range, on records. 5 is tested on the reference and on the range; nothing lies outside.
use Rattle.std.specs.Prelude.{true, ◌&&◌}
use Rattle.codec.specs.Format.{Format, verdict_by}
use Rattle.codec.specs.Reader.{Reader, mapped, on_formed}
use Rattle.range_3d.specs.Record.{Range3d, range_of, range_from, well_formed_range3d}
use Rattle.range3d_range3d.specs.Range.{range_bytes, read_range}

abbrev pub against_range : Range3d → Format Range3d
against_range r = record {
  check = λ v. verdict_by (well_formed_range3d r && well_formed_range3d v) true;
  encode = λ v. range_bytes (range_of r) (range_of v);
}

unfoldable pub read_against_range : Range3d → Reader Range3d
read_against_range r = on_formed (well_formed_range3d r) (mapped range_from (read_range (range_of r)))
