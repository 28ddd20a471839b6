-- docs/FORMAT.md, "Entries": an entry against a namespace and an area, on plain values.
use Rattle.std.specs.Prelude.{Option, Some, None, is_none, List, [], ◌∷◌, ◌++◌, Bool, not, ℕ, eqb}
use Rattle.codec.specs.Header.{read_header}
use Rattle.codec.specs.Reader.{Reader, give, some_bytes, and_then, guard, checked, mapped}
use Rattle.path.specs.Prefix.{is_prefix}
use Rattle.path_relative.specs.Against.{against_bytes, read_against}
use Rattle.grouping.specs.declared.TimeRange.{TimeRange}
use Rattle.grouping.specs.Area.{AreaValue}
use Rattle.entry.specs.Entry.{EntryValue}
use Rattle.entry_area_end.specs.declared.EntryAreaHeader.{EntryAreaHeader}
use Rattle.entry_area_end.specs.declared.End.{End}
use Rattle.entry_area_end.specs.Header.{unpack_header, pack_header}
use Rattle.entry_area_end.specs.End.{header_of, end_of, end_from, read_after_path}

-- ---- writing: header, id, path against the area's, time difference, payload length, digest. The id is written where the area has any subspace
abbrev pub id_bytes : Option (List ℕ) → List ℕ → List ℕ
id_bytes None id = id
id_bytes (Some r) id = []

-- the fields after the path
abbrev pub value_end : EntryValue → End
value_end v = end_from v.time v.size v.digest

-- the header and the id
abbrev pub start_of : TimeRange → Option (List ℕ) → List ℕ → End → List ℕ
start_of r s id e = pack_header (header_of (is_none s) r e.timestamp e.payload_length) ∷ id_bytes s id

abbrev pub start_bytes : AreaValue → EntryValue → List ℕ
start_bytes r v = start_of r.times r.subspace v.subspace (value_end v)

abbrev pub after_path_bytes : TimeRange → EntryValue → List ℕ
after_path_bytes r v = end_of r (value_end v)

abbrev pub rest_bytes : AreaValue → EntryValue → List ℕ
rest_bytes r v = against_bytes r.path v.path ++ after_path_bytes r.times v

unfoldable pub entry_bytes : AreaValue → EntryValue → List ℕ
entry_bytes r v = start_bytes r v ++ rest_bytes r v

-- ---- reading

-- the id, which is written just where the area has any subspace
abbrev pub read_id : Option (List ℕ) → Bool → Reader (List ℕ)
read_id None written = guard written (some_bytes 32)
read_id (Some id) written = guard (not written) (give id)

abbrev pub value_from : List ℕ → List ℕ → List (List ℕ) → End → EntryValue
value_from namespace subspace path end = record {
  namespace = namespace;
  subspace = subspace;
  path = path;
  time = end.timestamp;
  size = end.payload_length;
  digest = end.payload_digest;
}

-- what follows the id: a path that the area's is a prefix of, then the fields after it
unfoldable pub read_rest : Bool → List ℕ → List ℕ → List (List ℕ) → TimeRange → EntryAreaHeader → Reader EntryValue
read_rest canonic n subspace r times h =
    and_then (checked (is_prefix r) (read_against canonic r)) (λ path.
    mapped (value_from n subspace path) (
    read_after_path canonic times h))

unfoldable pub read_parts : Bool → List ℕ → AreaValue → EntryAreaHeader → Reader EntryValue
read_parts canonic n r h =
    and_then (read_id r.subspace h.id_written) (λ subspace.
    read_rest canonic n subspace r.path r.times h)

-- bits 6 and 7 are tested before anything else
unfoldable pub read_entry : Bool → List ℕ → AreaValue → Reader EntryValue
read_entry canonic n r =
    and_then (read_header unpack_header) (λ h.
    guard (eqb h.spare 0) (
    read_parts canonic n r h))
