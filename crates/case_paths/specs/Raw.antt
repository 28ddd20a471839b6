-- Case lines of a path record's raw parts: count, lengths, leading bytes.
use Rattle.std.specs.Prelude.{List, [], ◌∷◌, ◌++◌, cond, ℕ, ◌-◌, eqb, length, replicate, Option, Some, None, option_map}
use Rattle.codec.specs.Format.{length_answer}
use Rattle.path.specs.Record.{Path}
use Rattle.path.specs.Limits.{max_path_length, max_component_count}
use Rattle.path_codec.specs.Plain.{plain_path}
use Rattle.text.specs.Parts.{parts}
use Rattle.text.specs.Hex.{unhex}
use Rattle.text.specs.Fields.{read_hex}
use Rattle.decimal.specs.Decimal.{read_decimal}
use Rattle.case_text.specs.Texts.{length_text}
use Rattle.case_text.specs.Fields.{field, told, ◌>>=◌, exactly, on_field, decimal_field}

abbrev pub read_decimals : List (List ℕ) → Option (List ℕ)
read_decimals [] = Some []
read_decimals (p ∷ ps) = do
  v ← told (read_decimal p)
  vs ← read_decimals ps
  Some (v ∷ vs)

-- as many lengths as a record has, parted by commas
abbrev pub read_lengths : List ℕ → Option (List ℕ)
read_lengths f = cond (eqb (length (parts 44 f)) max_component_count) (read_decimals (parts 44 f)) None

-- a record's bytes: the leading ones are said, zeros follow
abbrev pub read_bytes : List ℕ → Option (List ℕ)
read_bytes f = option_map (λ n. unhex f ++ replicate (max_path_length - length (unhex f)) 0) (told (read_hex f max_path_length))

-- a record of these parts
abbrev pub path_of : List ℕ → List ℕ → ℕ → Path
path_of bytes lengths count = record { bytes = bytes; lengths = lengths; count = count }

abbrev pub raw_field : List ℕ → Option Path
raw_field line = exactly 4 line do
  count ← decimal_field 1 line
  lengths ← read_lengths (field 2 line)
  bytes ← read_bytes (field 3 line)
  Some (path_of bytes lengths count)

abbrev pub raw_line : List ℕ → List ℕ
raw_line line = on_field (raw_field line) (λ p. length_text (length_answer plain_path p))
