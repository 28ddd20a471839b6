-- Case lines of compact numbers: docs/CASES.md.
use Rattle.std.specs.Prelude.{List, cond, ℕ, ◌^◌, ltb, length, drop, Option, Some, None}
use Rattle.codec.specs.Format.{allowed, put_answer, put_buffer}
use Rattle.compact_u64.specs.Number.{min_tag, number_bytes, read_number, read_standalone, standalone}
use Rattle.codec.specs.Bytes.{same_bytes}
use Rattle.text.specs.Decimal.{decimal_text}
use Rattle.case_text.specs.Texts.{six, ok_text, read_text, written_number_text}
use Rattle.case_text.specs.Fields.{field, decimal_field, on_field}
use Rattle.case_text.specs.Asking.{Request, read, write, measure, asking}
use Rattle.case_text.specs.Records.{record_line}
use Rattle.text.specs.Ascii.{ascii}

-- the width of a tag
unfoldable pub width_of : List ℕ → Option ℕ
width_of f =
    cond (same_bytes f (ascii "2")) (Some 2)
    (cond (same_bytes f (ascii "3")) (Some 3)
    (cond (same_bytes f (ascii "4")) (Some 4)
    (cond (same_bytes f (ascii "5")) (Some 5)
    (cond (same_bytes f (ascii "6")) (Some 6)
    (cond (same_bytes f (ascii "7")) (Some 7)
    (cond (same_bytes f (ascii "8")) (Some 8) None))))))

-- ---- numbers after a tag of w bits: what was asked for, v being the tag of a number that is read, else the number itself
abbrev pub number_text : ℕ → ℕ → Request → List ℕ
number_text w v (read canonic start message) = cond (ltb v (2 ^ w)) (read_text decimal_text (read_number canonic w v (drop start message))) six
number_text w v (write lent) = written_number_text (put_answer allowed (number_bytes w v) (length lent)) (min_tag w v) (put_buffer allowed (number_bytes w v) lent)
number_text w v measure = ok_text (length (number_bytes w v))

-- ---- the two kinds
abbrev pub tagged_line : List ℕ → List ℕ
tagged_line line = on_field (width_of (field 2 line)) (λ w. on_field (decimal_field 3 line) (λ v. on_field (asking 4 4 line) (number_text w v)))

abbrev pub standalone_line : List ℕ → List ℕ
standalone_line line = record_line decimal_field decimal_text read_standalone standalone 2 3 line
