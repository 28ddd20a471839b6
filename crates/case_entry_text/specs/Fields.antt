-- The fields of an entry in a case line: docs/CASES.md. They are six: namespace, subspace, path, time, payload length, digest.
use Rattle.std.specs.Prelude.{List, ◌++◌, ℕ, ◌+◌, Option, Some}
use Rattle.path.specs.Flat.{path_in}
use Rattle.entry.specs.Record.{Entry, entry_with}
use Rattle.text.specs.Decimal.{decimal_text}
use Rattle.text.specs.Hex.{hex_text}
use Rattle.path_text.specs.PathText.{path_text_of}
use Rattle.case_text.specs.Texts.{after_tab}
use Rattle.case_text.specs.Fields.{◌>>=◌, decimal_field, path_field, id_field}
use Rattle.case_entry_text.specs.declared.EntryField.{EntryField}

-- ---- printed
abbrev pub entry_text : Entry → List ℕ
entry_text e =
    hex_text e.namespace_id
    ++ after_tab (hex_text e.subspace_id)
    ++ after_tab (path_text_of e.path)
    ++ after_tab (decimal_text e.timestamp)
    ++ after_tab (decimal_text e.payload_length)
    ++ after_tab (hex_text e.payload_digest)

-- ---- read, from the i-th field on
abbrev pub entry_field : ℕ → List ℕ → Option Entry
entry_field i line = do
  namespace ← id_field i line
  subspace ← id_field (i + 1) line
  path ← path_field (i + 2) line
  time ← decimal_field (i + 3) line
  size ← decimal_field (i + 4) line
  digest ← id_field (i + 5) line
  Some (record {
    namespace_id = namespace;
    subspace_id = subspace;
    path = path;
    timestamp = time;
    payload_length = size;
    payload_digest = digest;
  })

-- the entry of fields that were read
abbrev pub field_entry : EntryField → Entry
field_entry f = entry_with f.fields (path_in f.path.flat)
