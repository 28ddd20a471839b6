use Rattle.compact_u64.specs.Answers.{bits}
use Rattle.compact_u64.proofs.Exits.{number_bytes_lem}
use Rattle.compact_u64.proofs.relative_encode.Goals as goal

pub returns : goal.returns
returns c =
    let a = c.args in
    let n = c.relative_len_of_encoding in
    rw (number_bytes_lem (bits a.width) a.value n.result n.ensures.0) at c.put_big_endian.ensures
