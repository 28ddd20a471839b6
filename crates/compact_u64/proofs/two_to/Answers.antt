use Rattle.compact_u64.proofs.Tags.{two_to_lem}
use Rattle.compact_u64.proofs.two_to.Goals as goal

pub returns : goal.returns
returns c = two_to_lem c.args.exponent c.requires
