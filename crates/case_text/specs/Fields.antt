-- The fields of a line, parted by tabs. What is not in its form is none, and is answered 6.
use Rattle.std.specs.Prelude.{List, cond, ℕ, eqb, length, Option, Some, None, option_map, option_and_then}
use Rattle.path.specs.Record.{Path}
use Rattle.path.specs.Flat.{path_in}
use Rattle.path_text.specs.PathText.{read_path_text}
use Rattle.codec.specs.Answers.{Said, said, unsaid}
use Rattle.codec.specs.Bytes.{same_bytes}
use Rattle.text.specs.Parts.{parts, part_at}
use Rattle.text.specs.Hex.{unhex}
use Rattle.text.specs.Ids.{read_id_text}
use Rattle.decimal.specs.Decimal.{read_decimal}
use Rattle.text.specs.Fields.{read_hex}
use Rattle.case_text.specs.Limits.{max_bytes}
use Rattle.case_text.specs.declared.Op.{Op}
use Rattle.case_text.specs.declared.Op.TheVariants as op
use Rattle.case_text.specs.Texts.{six}
use Rattle.text.specs.Ascii.{ascii}

abbrev pub field : ℕ → List ℕ → List ℕ
field i line = part_at 9 i line

-- what is said, without the number of a refusal
abbrev pub told : {A : Type 0} → Said A → Option A
told (said a) = Some a
told (unsaid k) = None

-- ---- the i-th field: a number in decimal
abbrev pub decimal_field : ℕ → List ℕ → Option ℕ
decimal_field i line = told (read_decimal (field i line))

-- an id or a digest
abbrev pub id_field : ℕ → List ℕ → Option (List ℕ)
id_field i line = read_id_text (field i line)

-- bytes in hex, at most `room` of them
abbrev pub hex_field_in : ℕ → ℕ → List ℕ → Option (List ℕ)
hex_field_in room i line = option_map (λ n. unhex (field i line)) (told (read_hex (field i line) room))

-- a message or a lent buffer: all that a line can hold
abbrev pub hex_field : ℕ → List ℕ → Option (List ℕ)
hex_field i line = hex_field_in max_bytes i line

-- a path
abbrev pub path_field : ℕ → List ℕ → Option Path
path_field i line = option_map (λ p. path_in p.flat) (told (read_path_text (field i line)))

-- ---- several: one after another, and so many, no more and no fewer
infixl 10 ◌>>=◌
abbrev pub ◌>>=◌ : {A B : Type 0} → Option A → (A → Option B) → Option B
o >>= f = option_and_then f o

abbrev pub exactly : {A : Type 0} → ℕ → List ℕ → Option A → Option A
exactly n line o = cond (eqb (length (parts 9 line)) n) o None

-- what is answered of them
abbrev pub on_field : {A : Type 0} → Option A → (A → List ℕ) → List ℕ
on_field (Some a) k = k a
on_field None k = six

-- ---- the operation that a field names: `s`, `l`, `w` or `n`
unfoldable pub op_of : List ℕ → Option Op
op_of f =
    cond (same_bytes f (ascii "s")) (Some op.Strict)
    (cond (same_bytes f (ascii "l")) (Some op.Lenient)
    (cond (same_bytes f (ascii "w")) (Some op.Write)
    (cond (same_bytes f (ascii "n")) (Some op.Length) None)))
