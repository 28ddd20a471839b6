-- What the writer's private functions are stated by.
use Rattle.std.specs.Prelude.{◌≡◌, List, ◌++◌, true, ◌&&◌, ℕ}
use Rattle.grouping.specs.declared.AreaHead.{AreaHead}
use Rattle.grouping.specs.Record.{Area, head_of, well_formed_area}
use Rattle.grouping.specs.Area.{head_lies_inside}
use Rattle.area_times.specs.Times.{times_bytes}
use Rattle.area_area.specs.Area.{start_of}

abbrev pub head_bytes : AreaHead → AreaHead → List ℕ
head_bytes r a = start_of r.subspace r.times a.subspace a.times ++ times_bytes r.times a.times

-- both areas are well formed, and a lies inside r as far as what they have beside their paths tells
pub record IsInHead (r a : Area) : Type 0 where
  pub formed : (well_formed_area r && well_formed_area a) ≡ true
  pub inside : head_lies_inside (head_of r) (head_of a) ≡ true
