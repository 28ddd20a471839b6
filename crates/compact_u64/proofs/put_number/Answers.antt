use Rattle.compact_u64.specs.Answers.{bits}
use Rattle.compact_u64.proofs.Exits.{number_bytes_lem}
use Rattle.compact_u64.proofs.put_number.Goals as goal

pub returns : goal.returns
returns c =
    let n = c.relative_len_of_encoding-n in
    (n.ensures.0, rw (number_bytes_lem (bits c.args.width) c.args.value n.result n.ensures.0) at c.fill_big_endian.ensures)
