-- The area listing: docs/LISTING.md.
use Rattle.std.specs.Prelude.{List, Bool, true, false, cond, ℕ, leb, length, Option, Some}
use Rattle.grouping.specs.Record.{Area}
use Rattle.area_area.specs.Records.{read_against_area}
use Rattle.area_text.specs.AreaText.{area_text, area_field}
use Rattle.case_text.specs.Texts.{six, ended, read_text}
use Rattle.case_text.specs.declared.Op.{Op}
use Rattle.case_text.specs.declared.Op.TheVariants as op
use Rattle.case_text.specs.Fields.{field, ◌>>=◌, exactly, on_field, hex_field, op_of}

-- a line: the mode, the reference, the message; the latter two
abbrev pub query_field : List ℕ → Option (Area × List ℕ)
query_field line = exactly 6 line do
  reference ← area_field 1 line
  message ← hex_field 5 line
  Some (reference, message)

abbrev pub read_line : Bool → List ℕ → List ℕ
read_line canonic line = on_field (query_field line) (λ query. read_text area_text (read_against_area canonic query.0 query.1))

abbrev pub mode_line : Op → List ℕ → List ℕ
mode_line op.Strict line = read_line true line
mode_line op.Lenient line = read_line false line
mode_line op.Write line = six
mode_line op.Length line = six

-- how long a line may be; a longer one is not in its form
abbrev pub max_line : ℕ
max_line = 4096

abbrev pub line_answer : List ℕ → List ℕ
line_answer line = cond (leb (length line) max_line) (on_field (op_of (field 0 line)) (λ mode. mode_line mode line)) six

unfoldable pub answer_to : List ℕ → List ℕ
answer_to line = ended (line_answer line)
