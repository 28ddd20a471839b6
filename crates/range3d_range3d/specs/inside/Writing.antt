-- What the writer's private functions are stated by.
use Rattle.std.specs.Prelude.{Option, Some, None, List, ◌++◌, Bool, false, ◌&&◌, ℕ}
use Rattle.codec.specs.Format.{Format, allowed}
use Rattle.codec.specs.Answers.{Said}
use Rattle.path.specs.Answers.{said_if}
use Rattle.range_3d.specs.Range3d.{open_end}
use Rattle.range_3d.specs.Record.{Range3d, paths_of, well_formed_range3d}
use Rattle.range_subspaces.specs.Subspaces.{subspaces_bytes}
use Rattle.range_paths.specs.declared.NearPath.{NearPath}
use Rattle.range_paths.specs.declared.MeasuredPaths.{MeasuredPaths}
use Rattle.range_paths.specs.Records.{measure_of}
use Rattle.range_paths.specs.inside.Writing.{both_bytes}
use Rattle.range_times.specs.Times.{times_bytes}
use Rattle.range3d_range3d.specs.Range.{header_with, head_bytes}

unfoldable pub measure_range : Range3d → Range3d → Said MeasuredPaths
measure_range r v = said_if (well_formed_range3d r && well_formed_range3d v) (measure_of (paths_of r.paths) (paths_of v.paths))

-- an open end is written against nothing
abbrev pub end_near : Option NearPath → Bool
end_near None = false
end_near (Some n) = n.from_start

-- and bytes by these
abbrev pub head_with : Range3d → Range3d → MeasuredPaths → List ℕ
head_with r v m = head_bytes (header_with r.subspaces v.subspaces m.start.from_start (open_end v.paths.end) (end_near m.end) v.times) r.times v.times

abbrev pub measured_range : Range3d → MeasuredPaths → Format Range3d
measured_range r m = record {
  check = λ v. allowed;
  encode = λ v.
      head_with r v m ++ (
      subspaces_bytes r.subspaces v.subspaces ++ (
      both_bytes v.paths m ++ times_bytes r.times v.times));
}
