use Rattle.std.proofs.Common.{arith, rules}
use Rattle.path.proofs.Puts.{puts_first, puts_long}
use Rattle.case_paths.proofs.RawSteps.{raw_record, puts_part, puts_all}
use Rattle.case_paths.proofs.raw.put_raw.Goals as goal

pub returns : goal.returns
returns c =
    let first = puts_first c.args.flat.now c.args.count (omega arith) in
    let second = puts_part 640 first (omega (arith, puts_long first (omega arith))) c.put_lengths.ensures in
    let all = puts_part 600 second (omega (arith, puts_long second (omega arith))) (puts_all 600 c.args.bytes.now c.copy_from_slice.ensures.after (search rules) (search rules)) in
    raw_record _ _ _ all (search rules) (search rules) (search rules) c.requires.0 c.requires.1
