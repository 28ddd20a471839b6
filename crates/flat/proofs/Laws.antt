-- Flat bytes and records determine each other.
use Rattle.flat.specs.Laws.{FlatLaws}
use Rattle.flat.proofs.PathLaws.{path_flat_lem}
use Rattle.flat.proofs.AreaLaws.{area_long, area_loads, area_stores}
use Rattle.flat.proofs.EntryLaws.{entry_long, entry_loads, entry_stores}
use Rattle.flat.proofs.RangeLaws.{range_long, range_loads, range_stores}

pub flat_laws : FlatLaws
flat_laws = record {
  paths = path_flat_lem;
  areas = record { long = area_long; loads = area_loads; stores = area_stores };
  entries = record { long = entry_long; loads = entry_loads; stores = entry_stores };
  ranges = record { long = range_long; loads = range_loads; stores = range_stores };
}
