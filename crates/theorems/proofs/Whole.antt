-- Demand 3 whole, by citation: the generic proof is codec/proofs/Demand3, from the four laws of each record.
use Rattle.codec.proofs.Prelude.{◌&&◌}
use Rattle.codec.proofs.Lawful.{verdict_allowed}
use Rattle.grouping.specs.Area.{area_lies_inside}
use Rattle.grouping.specs.Record.{area_of, well_formed_area}
use Rattle.path_relative.proofs.Records.{against_demand3}
use Rattle.area_area.proofs.Records.{area_demand3}
use Rattle.entry.specs.Entry.{entry_lies_inside}
use Rattle.entry.specs.Record.{entry_of, well_formed_entry}
use Rattle.entry_area.proofs.Records.{entry_demand3}
use Rattle.theorems.specs.Whole.{Whole}

pub whole : Whole
whole = record {
  paths = against_demand3;
  areas = area_demand3;
  entries = entry_demand3;
  area_inside = λ r t w s at a k h e.
      (verdict_allowed (well_formed_area r && well_formed_area a) (area_lies_inside (area_of r) (area_of a)) (((area_demand3 r t w).accepts s at a k h).0 e).valid.allows).1;
  entry_inside = λ n id r t w s at v k h e.
      (verdict_allowed (well_formed_area r && well_formed_entry v) (entry_lies_inside n (area_of r) (entry_of v)) (((entry_demand3 n id r t w).accepts s at v k h).0 e).valid.allows).1;
}
