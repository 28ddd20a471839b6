-- docs/ABI.md, "Records": an entry as flat bytes, namespace id, subspace id, path, timestamp, payload length, payload digest.
use Rattle.std.specs.Prelude.{List, ◌++◌, ℕ, ◌+◌, take, drop}
use Rattle.compact_u64.specs.BigEndian.{big_endian, value_of}
use Rattle.entry.specs.Record.{Entry, fields_of}
use Rattle.entry.specs.declared.EntryFields.{EntryFields}
use Rattle.path.specs.Flat.{path_size, path_flat, path_in}

-- where what follows the path starts, and how many bytes there are in all
abbrev pub entry_time_start : ℕ
entry_time_start = 64 + path_size

abbrev pub entry_length_start : ℕ
entry_length_start = entry_time_start + 8

abbrev pub entry_digest_start : ℕ
entry_digest_start = entry_length_start + 8

abbrev pub entry_size : ℕ
entry_size = entry_digest_start + 32

abbrev pub ids_flat : EntryFields → List ℕ
ids_flat f = f.namespace_id ++ f.subspace_id

-- what follows the path
abbrev pub end_flat : EntryFields → List ℕ
end_flat f = big_endian 8 f.timestamp ++ (big_endian 8 f.payload_length ++ f.payload_digest)

unfoldable pub entry_flat : Entry → List ℕ
entry_flat e = ids_flat (fields_of e) ++ (path_flat e.path ++ end_flat (fields_of e))

unfoldable pub entry_in : List ℕ → Entry
entry_in s = record {
  namespace_id = take 32 s;
  subspace_id = take 32 (drop 32 s);
  path = path_in (drop 64 s);
  timestamp = value_of (take 8 (drop entry_time_start s));
  payload_length = value_of (take 8 (drop entry_length_start s));
  payload_digest = take 32 (drop entry_digest_start s);
}
