-- What the writer's private functions are stated by.
use Rattle.std.specs.Prelude.{◌≡◌, Option, Some, None, List, [], ◌++◌, ◌&&◌, ℕ}
use Rattle.codec.specs.Format.{allowed}
use Rattle.codec.specs.Answers.{Said}
use Rattle.path.specs.Record.{Path, components_of, sized}
use Rattle.path.specs.Answers.{said_if}
use Rattle.path_relative.specs.Records.{shared_by}
use Rattle.range_3d.specs.declared.Range.{Range}
use Rattle.range_3d.specs.Record.{paths_of, sized_paths}
use Rattle.range_paths.specs.declared.NearPath.{NearPath}
use Rattle.range_paths.specs.declared.MeasuredPaths.{MeasuredPaths}
use Rattle.range_paths.specs.Records.{near_of}

unfoldable pub near_in : Range Path → Path → Said NearPath
near_in r p = said_if (sized_paths r && sized p) (near_of (paths_of r) (components_of p))

-- an end, and what was measured of it
abbrev pub end_after : Option Path → Option NearPath → List ℕ
end_after (Some p) (Some n) = (shared_by sized n.shared).encode p
end_after p n = []

abbrev pub both_bytes : Range Path → MeasuredPaths → List ℕ
both_bytes v m = (shared_by sized m.start.shared).encode v.start ++ end_after v.end m.end

-- counts that the paths have
abbrev pub EndShares : Option Path → Option NearPath → Type 0
EndShares None None = Unit {0}
EndShares (Some p) (Some n) = (shared_by sized n.shared).check p ≡ allowed
EndShares p n = ⊥

pub record Shares (v : Range Path) (m : MeasuredPaths) : Type 0 where
  pub start : (shared_by sized m.start.shared).check v.start ≡ allowed
  pub end : EndShares v.end m.end
