-- docs/FORMAT.md, "Areas": areas against an area, on records. 5 is tested on the reference and on the area, then 3: the area lies inside.
use Rattle.std.specs.Prelude.{Bool, ◌&&◌}
use Rattle.codec.specs.Format.{Format, verdict_by}
use Rattle.codec.specs.Reader.{Reader, mapped, on_formed}
use Rattle.grouping.specs.Record.{Area, area_of, area_from, well_formed_area}
use Rattle.grouping.specs.Area.{area_lies_inside}
use Rattle.area_area.specs.Area.{area_bytes, read_area}

abbrev pub against_area : Area → Format Area
against_area r = record {
  check = λ a. verdict_by (well_formed_area r && well_formed_area a) (area_lies_inside (area_of r) (area_of a));
  encode = λ a. area_bytes (area_of r) (area_of a);
}

unfoldable pub read_against_area : Bool → Area → Reader Area
read_against_area canonic r = on_formed (well_formed_area r) (mapped area_from (read_area canonic (area_of r)))
