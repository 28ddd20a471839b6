-- Case lines of 3d ranges against a 3d range: docs/CASES.md. The reference stands before the other fields.
use Rattle.std.specs.Prelude.{List, ℕ}
use Rattle.range3d_range3d.specs.Records.{against_range, read_against_range}
use Rattle.range_3d.specs.Record.{Range3d}
use Rattle.case_text.specs.Fields.{on_field}
use Rattle.case_text.specs.Records.{lenient_line}
use Rattle.case_range_text.specs.Fields.{range_text, range_field}

abbrev pub against_line : Range3d → List ℕ → List ℕ
against_line r line = lenient_line range_field range_text (read_against_range r) (against_range r) 8 14 line

abbrev pub range_line : List ℕ → List ℕ
range_line line = on_field (range_field 2 line) (λ r. against_line r line)
