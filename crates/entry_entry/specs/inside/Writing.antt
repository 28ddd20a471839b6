-- What the writer's private functions are stated by.
use Rattle.std.specs.Prelude.{List, ◌∷◌, ◌++◌, ℕ}
use Rattle.entry.specs.declared.EntryFields.{EntryFields}
use Rattle.entry_numbers.specs.declared.EntryHeader.{EntryHeader}
use Rattle.entry_numbers.specs.Header.{pack_header}
use Rattle.entry_numbers.specs.Numbers.{header_of, numbers_bytes}
use Rattle.entry_entry.specs.Entry.{id_written, id_bytes}

abbrev pub header_with : EntryFields → EntryFields → EntryHeader
header_with r f =
    header_of
    (id_written r.namespace_id f.namespace_id)
    (id_written r.subspace_id f.subspace_id)
    r.timestamp
    f.timestamp
    f.payload_length

abbrev pub ids_with : EntryFields → EntryFields → List ℕ
ids_with r f = id_bytes r.namespace_id f.namespace_id ++ id_bytes r.subspace_id f.subspace_id

abbrev pub rest_with : EntryFields → EntryFields → List ℕ → List ℕ
rest_with r f path = numbers_bytes r.timestamp f.timestamp f.payload_length ++ (path ++ f.payload_digest)

abbrev pub parts_with : EntryFields → EntryFields → List ℕ → List ℕ
parts_with r f path = ids_with r f ++ rest_with r f path

abbrev pub known_bytes : EntryFields → EntryFields → List ℕ → List ℕ
known_bytes r f path = pack_header (header_with r f) ∷ parts_with r f path
