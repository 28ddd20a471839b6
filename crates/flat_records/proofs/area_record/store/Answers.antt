use Rattle.codec.proofs.Prelude.{◌∙◌, append_assoc, arith}
use Rattle.path.proofs.Puts.{puts_whole}
use Rattle.flat.specs.AreaRecord.{area_size, area_flat}
use Rattle.flat.proofs.Parts.{puts_part}
use Rattle.flat.proofs.PathLaws.{path_stored}
use Rattle.flat_records.proofs.area_record.store.Goals as goal

pub returns : goal.returns
unfolding area_flat
returns c =
    let path = puts_part area_size c.put_optional.ensures (omega arith) (omega arith) c.put.ensures in
    let whole = puts_part area_size path (omega arith) (omega arith) c.put_times.ensures in
    let stored = path_stored c.args.path.now (omega arith) c.fits-path in
    puts_whole whole (omega arith) ∙ rw (append_assoc, c.as_ref.ensures.value, stored)
