-- The operations on a record, whatever its reference, reader and format: strict and lenient reading, writing, written length.
use Rattle.std.specs.Prelude.{List, Bool, true, false, ℕ, length, drop, Option}
use Rattle.codec.specs.Format.{Format, write_answer, write_buffer, length_answer}
use Rattle.codec.specs.Reader.{Reader}
use Rattle.case_text.specs.Texts.{six, read_text, length_text, written_text}
use Rattle.case_text.specs.Fields.{on_field}
use Rattle.case_text.specs.Asking.{Request, read, write, measure, asking}

-- the value v, where there is one, written into a lent buffer, or measured
abbrev pub write_text : {A : Type 0} → Format A → Option A → List ℕ → List ℕ
write_text format value lent = on_field value (λ v. written_text (write_answer format v (length lent)) (write_buffer format v lent))

abbrev pub measure_text : {A : Type 0} → Format A → Option A → List ℕ
measure_text format value = on_field value (λ v. length_text (length_answer format v))

-- what was asked for: `print` prints a value that is read, `value` is the one that the line has
abbrev pub record_text : {A : Type 0} → (A → List ℕ) → (Bool → Reader A) → Format A → Option A → Request → List ℕ
record_text print reader format value (read canonic start message) = read_text print (reader canonic (drop start message))
record_text print reader format value (write lent) = write_text format value lent
record_text print reader format value measure = measure_text format value

-- start and message stand from the i-th field on; `parse` reads a value from there, and j is the field after it
abbrev pub record_line : {A : Type 0} → (ℕ → List ℕ → Option A) → (A → List ℕ) → (Bool → Reader A) → Format A → ℕ → ℕ → List ℕ → List ℕ
record_line parse print reader format i j line = on_field (asking i j line) (record_text print reader format (parse i line))

-- the same of a record that is read leniently only
abbrev pub lenient_text : {A : Type 0} → (A → List ℕ) → Reader A → Format A → Option A → Request → List ℕ
lenient_text print reader format value (read true start message) = six
lenient_text print reader format value (read false start message) = read_text print (reader (drop start message))
lenient_text print reader format value (write lent) = write_text format value lent
lenient_text print reader format value measure = measure_text format value

abbrev pub lenient_line : {A : Type 0} → (ℕ → List ℕ → Option A) → (A → List ℕ) → Reader A → Format A → ℕ → ℕ → List ℕ → List ℕ
lenient_line parse print reader format i j line = on_field (asking i j line) (lenient_text print reader format (parse i line))
