-- Case lines of entries against a namespace and an area: docs/CASES.md.
use Rattle.std.specs.Prelude.{List, ℕ}
use Rattle.grouping.specs.Record.{Area}
use Rattle.entry_area.specs.Records.{against_namespace_area, read_against_namespace_area}
use Rattle.case_text.specs.Fields.{id_field, on_field}
use Rattle.case_text.specs.Records.{record_line}
use Rattle.area_text.specs.AreaText.{area_field}
use Rattle.case_entry_text.specs.Fields.{entry_text, entry_field}

-- ---- the line: namespace and area stand before the other fields
abbrev pub against_line : List ℕ → Area → List ℕ → List ℕ
against_line n r line = record_line entry_field entry_text (λ canonic. read_against_namespace_area canonic n r) (against_namespace_area n r) 7 13 line

abbrev pub entry_line : List ℕ → List ℕ
entry_line line = on_field (id_field 2 line) (λ n. on_field (area_field 3 line) (λ r. against_line n r line))
