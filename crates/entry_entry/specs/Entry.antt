-- docs/FORMAT.md, "Entries against an entry": an entry against an entry, on plain values.
use Rattle.std.specs.Prelude.{List, [], ◌∷◌, ◌++◌, Bool, false, cond, not, ℕ}
use Rattle.codec.specs.Bytes.{same_bytes}
use Rattle.codec.specs.Header.{read_header}
use Rattle.codec.specs.Reader.{Reader, give, some_bytes, and_then, mapped, choose}
use Rattle.path_relative.specs.Against.{against_bytes, read_against}
use Rattle.entry.specs.Entry.{EntryValue}
use Rattle.entry_numbers.specs.declared.EntryHeader.{EntryHeader}
use Rattle.entry_numbers.specs.declared.Numbers.{Numbers}
use Rattle.entry_numbers.specs.Header.{unpack_header, pack_header}
use Rattle.entry_numbers.specs.Numbers.{header_of, numbers_bytes, read_numbers}
use Rattle.entry_entry.specs.declared.Ids.{Ids}
use Rattle.entry_entry.specs.declared.Head.{Head}

-- ---- writing: header, namespace and subspace if they differ, time difference, payload length, path, digest
unfoldable pub id_written : List ℕ → List ℕ → Bool
id_written r id = not (same_bytes id r)

abbrev pub entry_header : EntryValue → EntryValue → EntryHeader
entry_header r v = header_of (id_written r.namespace v.namespace) (id_written r.subspace v.subspace) r.time v.time v.size

unfoldable pub id_bytes : List ℕ → List ℕ → List ℕ
id_bytes r id = cond (id_written r id) id []

abbrev pub ids_bytes : EntryValue → EntryValue → List ℕ
ids_bytes r v = id_bytes r.namespace v.namespace ++ id_bytes r.subspace v.subspace

abbrev pub after_path_bytes : EntryValue → EntryValue → List ℕ
after_path_bytes r v = against_bytes r.path v.path ++ v.digest

abbrev pub parts_bytes : EntryValue → EntryValue → List ℕ
parts_bytes r v = ids_bytes r v ++ (numbers_bytes r.time v.time v.size ++ after_path_bytes r v)

unfoldable pub entry_bytes : EntryValue → EntryValue → List ℕ
entry_bytes r v = pack_header (entry_header r v) ∷ parts_bytes r v

-- ---- reading: an id that is written may be the reference's
abbrev pub read_id : Bool → List ℕ → Reader (List ℕ)
read_id written r = choose written (some_bytes 32) (give r)

abbrev pub ids_from : List ℕ → List ℕ → Ids
ids_from namespace subspace = record { namespace_id = namespace; subspace_id = subspace }

unfoldable pub read_ids : List ℕ → List ℕ → EntryHeader → Reader Ids
read_ids namespace subspace h =
    and_then (read_id h.namespace_written namespace) (λ n.
    mapped (ids_from n) (
    read_id h.subspace_written subspace))

-- what comes before the path, against the reference's ids and time
abbrev pub head_from : Ids → Numbers → Head
head_from ids numbers = record { ids = ids; numbers = numbers }

unfoldable pub read_head : List ℕ → List ℕ → ℕ → Reader Head
read_head namespace subspace time =
    and_then (read_header unpack_header) (λ h.
    and_then (read_ids namespace subspace h) (λ ids.
    mapped (head_from ids) (
    read_numbers time h)))

abbrev pub value_from : Head → List (List ℕ) → List ℕ → EntryValue
value_from head path digest = record {
  namespace = head.ids.namespace_id;
  subspace = head.ids.subspace_id;
  path = path;
  time = head.numbers.timestamp;
  size = head.numbers.payload_length;
  digest = digest;
}

unfoldable pub read_entry : EntryValue → Reader EntryValue
read_entry r =
    and_then (read_head r.namespace r.subspace r.time) (λ head.
    and_then (read_against false r.path) (λ path.
    mapped (value_from head path) (
    some_bytes 32)))
