-- The answer to a case line: docs/CASES.md.
use Rattle.std.specs.Prelude.{List, cond, ℕ, ◌*◌, leb, length}
use Rattle.codec.specs.Bytes.{same_bytes}
use Rattle.case_text.specs.Limits.{max_bytes}
use Rattle.case_text.specs.Texts.{six, ended}
use Rattle.case_text.specs.Fields.{field}
use Rattle.case_numbers.specs.Lines.{tagged_line, standalone_line}
use Rattle.case_paths.specs.declared.Encoding.TheVariants as encoding
use Rattle.case_paths.specs.Lines.{plain_line, relative_line}
use Rattle.case_paths.specs.Raw.{raw_line}
use Rattle.case_areas.specs.Lines.{area_line}
use Rattle.case_entries.specs.Lines.{entry_line}
use Rattle.case_entry_entry.specs.Lines.{entry_entry_line}
use Rattle.case_ranges.specs.Lines.{range_line}
use Rattle.text.specs.Ascii.{ascii}

-- by the kind, which the first field names
unfoldable pub kind_line : List ℕ → List ℕ → List ℕ
kind_line kind line =
    cond (same_bytes kind (ascii "number")) (tagged_line line)
    (cond (same_bytes kind (ascii "standalone")) (standalone_line line)
    (cond (same_bytes kind (ascii "path")) (plain_line line)
    (cond (same_bytes kind (ascii "path_path")) (relative_line encoding.Against line)
    (cond (same_bytes kind (ascii "path_extends")) (relative_line encoding.Extends line)
    (cond (same_bytes kind (ascii "area_area")) (area_line line)
    (cond (same_bytes kind (ascii "entry_area")) (entry_line line)
    (cond (same_bytes kind (ascii "entry_entry")) (entry_entry_line line)
    (cond (same_bytes kind (ascii "range3d_range3d")) (range_line line)
    (cond (same_bytes kind (ascii "raw")) (raw_line line) six)))))))))

-- how long a line may be; a longer one is not in its form
abbrev pub max_line : ℕ
max_line = 2 * max_bytes

abbrev pub line_answer : List ℕ → List ℕ
line_answer line = cond (leb (length line) max_line) (kind_line (field 0 line) line) six

unfoldable pub answer_to : List ℕ → List ℕ
answer_to line = ended (line_answer line)
