-- What a difference knows of its paths.
use Rattle.range_3d.specs.Record.{range_lent}
use Rattle.range3d_range3d.proofs.Writing.{Measures, measures}
use Rattle.range3d_range3d_encode.specs.declared.range_encode.Difference.{Difference}

pub known : (d : Difference) → Measures (range_lent d.reference) (range_lent d.range) d.paths
known d = measures (range_lent d.reference) (range_lent d.range) d.paths d.told
