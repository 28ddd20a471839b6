-- Case lines of entries against an entry: docs/CASES.md. The reference stands before the other fields.
use Rattle.std.specs.Prelude.{List, ℕ}
use Rattle.entry_entry.specs.Records.{against_entry, read_against_entry}
use Rattle.entry.specs.Record.{Entry}
use Rattle.case_text.specs.Fields.{on_field}
use Rattle.case_text.specs.Records.{lenient_line}
use Rattle.case_entry_text.specs.Fields.{entry_text, entry_field}

abbrev pub against_line : Entry → List ℕ → List ℕ
against_line r line = lenient_line entry_field entry_text (read_against_entry r) (against_entry r) 8 14 line

abbrev pub entry_entry_line : List ℕ → List ℕ
entry_entry_line line = on_field (entry_field 2 line) (λ r. against_line r line)
