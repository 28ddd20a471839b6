-- Case lines of paths: docs/CASES.md.
use Rattle.std.specs.Prelude.{List, Bool, ℕ, ◌+◌}
use Rattle.codec.specs.Format.{Format}
use Rattle.codec.specs.Reader.{Reader}
use Rattle.path.specs.Record.{Path}
use Rattle.path_codec.specs.Plain.{plain_path, read_path}
use Rattle.path_relative.specs.Records.{against_path, extends_path, read_against_path, read_extends_path}
use Rattle.path_text.specs.PathText.{path_text_of}
use Rattle.case_text.specs.Fields.{path_field, on_field}
use Rattle.case_text.specs.Records.{record_line}
use Rattle.case_paths.specs.declared.Encoding.{Encoding}
use Rattle.case_paths.specs.declared.Encoding.TheVariants as encoding

-- ---- the encodings of a path against a reference, which plain paths do not have
abbrev pub encoding_reader : Encoding → Path → Bool → Reader Path
encoding_reader encoding.Plain r canonic = read_path canonic
encoding_reader encoding.Against r canonic = read_against_path canonic r
encoding_reader encoding.Extends r canonic = read_extends_path canonic r

abbrev pub encoding_format : Encoding → Path → Format Path
encoding_format encoding.Plain r = plain_path
encoding_format encoding.Against r = against_path r
encoding_format encoding.Extends r = extends_path r

abbrev pub encoding_line : Encoding → Path → ℕ → List ℕ → List ℕ
encoding_line e r i line = record_line path_field path_text_of (encoding_reader e r) (encoding_format e r) i (i + 1) line

-- ---- the lines
abbrev pub plain_line : List ℕ → List ℕ
plain_line line = record_line path_field path_text_of read_path plain_path 2 3 line

-- the reference stands before the other fields
abbrev pub relative_line : Encoding → List ℕ → List ℕ
relative_line e line = on_field (path_field 2 line) (λ r. encoding_line e r 3 line)
