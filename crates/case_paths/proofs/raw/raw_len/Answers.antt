use Rattle.std.proofs.Common.{rules}
use Rattle.path.specs.Record.{Path}
use Rattle.case_paths.specs.Raw.{path_of}
use Rattle.case_paths.proofs.RawSteps.{many_refused, long_refused}
use Rattle.case_paths.proofs.raw.raw_len.Goals.{then-count-gt-MAX_COMPONENT_COUNT-via-then-count-gt-MAX_COMPONENT_COUNT, then-count-gt-MAX_COMPONENT_COUNT-via-else-count-gt-MAX_COMPONENT_COUNT+then-not-held}
use Rattle.case_paths.proofs.raw.raw_len.Goals as goal

pub returns-then-count-gt-MAX_COMPONENT_COUNT : goal.returns-then-count-gt-MAX_COMPONENT_COUNT
returns-then-count-gt-MAX_COMPONENT_COUNT c =
    let path : Path = path_of c.args.bytes.now c.args.lengths.now c.args.count in
    elim c.then-count-gt-MAX_COMPONENT_COUNT.branch [
      | then-count-gt-MAX_COMPONENT_COUNT-via-then-count-gt-MAX_COMPONENT_COUNT w ↦ many_refused path w.if-count-gt-MAX_COMPONENT_COUNT.true
      | then-count-gt-MAX_COMPONENT_COUNT-via-else-count-gt-MAX_COMPONENT_COUNT+then-not-held w ↦ long_refused path (search rules)
    ]
