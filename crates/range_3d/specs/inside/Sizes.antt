-- What private functions of the readers above ask of the sizes.
use Rattle.std.specs.Prelude.{Bool}
use Rattle.range_3d.specs.Record.{Range3d, sized_paths}

unfoldable pub sized_range3d : Range3d → Bool
sized_range3d r = sized_paths r.paths
