use Rattle.codec.proofs.Prelude.{◌≡◌, append_assoc, arith}
use Rattle.std.proofs.Common.{rules}
use Rattle.codec.specs.Header.{bit}
use Rattle.path.proofs.Puts.{puts_tail, puts_byte, puts_as}
use Rattle.flat.specs.Times.{times_flat}
use Rattle.flat_records.proofs.times.put_times.Goals as goal

pub returns : goal.returns
unfolding times_flat
returns c =
    let flag : c.from.result ≡ bit c.is_open.result = search rules in
    let mark = puts_byte c.put_number.ensures c.from.result (omega (arith, c.requires)) in
    puts_as (puts_tail mark c.put_number-2.ensures) (rw (append_assoc, c.end_time.ensures, flag, c.is_open.ensures))
