-- Case lines of areas against an area: docs/CASES.md.
use Rattle.std.specs.Prelude.{List, ℕ}
use Rattle.grouping.specs.Record.{Area}
use Rattle.area_area.specs.Records.{against_area, read_against_area}
use Rattle.area_text.specs.AreaText.{area_text, area_field}
use Rattle.case_text.specs.Fields.{on_field}
use Rattle.case_text.specs.Records.{record_line}

-- the reference stands before the other fields
abbrev pub against_line : Area → List ℕ → List ℕ
against_line r line = record_line area_field area_text (λ canonic. read_against_area canonic r) (against_area r) 6 10 line

abbrev pub area_line : List ℕ → List ℕ
area_line line = on_field (area_field 2 line) (λ r. against_line r line)
