use Rattle.codec.proofs.Prelude.{arith}
use Rattle.codec.proofs.Lending.{length_allowed}
use Rattle.range_3d.specs.Record.{range_lent}
use Rattle.range3d_range3d.specs.Records.{against_range}
use Rattle.range3d_range3d.proofs.Writing.{range_long}
use Rattle.range3d_range3d_encode.proofs.Known.{known}
use Rattle.range3d_range3d_encode.proofs.range_encode.Difference.len.Goals as goal

pub overflow_add-result-2 : goal.overflow_add-result-2
overflow_add-result-2 c = omega (arith, (known c.args.self).short)

pub overflow_add-result-3 : goal.overflow_add-result-3
overflow_add-result-3 c = omega (arith, (known c.args.self).short)

pub returns : goal.returns
returns c =
    let s = c.args.self in
    let reference = range_lent s.reference in
    let range = range_lent s.range in
    let k = known s in
    length_allowed (against_range reference) range _ k.allows
    (omega (arith, range_long reference range k _ _ c.relative_len_of_encoding-subspaces.ensures.0 c.relative_len_of_encoding-times.ensures.0))
