use Rattle.std.proofs.Common.{rules}
use Rattle.grouping.specs.Record.{area_lent}
use Rattle.area_area.proofs.Writing.{outside}
use Rattle.area_area_encode.proofs.check.Goals as goal

pub returns-then-not-contains-clause-err : goal.returns-then-not-contains-clause-err
returns-then-not-contains-clause-err c = outside (area_lent c.args.reference) (area_lent c.args.area) (search rules) (search rules)
