-- docs/FORMAT.md, "Entries": an entry's record. It is well formed when its path is. The code holds the path's record apart from the other fields.
use Rattle.std.specs.Prelude.{Some, List, Bool, ◌&&◌, ℕ}
use Rattle.codec.specs.Bytes.{same_bytes, TypedId}
use Rattle.compact_u64.specs.Number.{U64}
use Rattle.path.specs.Record.{Path, components_of, path_from, well_formed, TypedPath}
use Rattle.codec.specs.Answers.{Said}
use Rattle.path.specs.Flat.{path_in}
use Rattle.path.specs.Answers.{said_if}
use Rattle.grouping.specs.Record.{Area, area_of, well_formed_area}
use Rattle.grouping.specs.declared.AreaHead.{AreaHead}
use Rattle.grouping.specs.Range.{includes_time}
use Rattle.grouping.specs.Area.{includes_subspace}
use Rattle.entry.specs.declared.EntryFields.{EntryFields}
use Rattle.entry.specs.declared.Entry.{Entry as LentEntry}
use Rattle.entry.specs.Entry.{EntryValue, entry_lies_inside}

pub record Entry : Type 0 where
  pub namespace_id : List ℕ
  pub subspace_id : List ℕ
  pub path : Path
  pub timestamp : ℕ
  pub payload_length : ℕ
  pub payload_digest : List ℕ

-- ---- the values of a record, and the record of values
abbrev pub entry_of : Entry → EntryValue
entry_of e = record {
  namespace = e.namespace_id;
  subspace = e.subspace_id;
  path = components_of e.path;
  time = e.timestamp;
  size = e.payload_length;
  digest = e.payload_digest;
}

unfoldable pub entry_from : EntryValue → Entry
entry_from v = record {
  namespace_id = v.namespace;
  subspace_id = v.subspace;
  path = path_from v.path;
  timestamp = v.time;
  payload_length = v.size;
  payload_digest = v.digest;
}

-- ---- an entry by its path and what it has beside it
abbrev pub fields_of : Entry → EntryFields
fields_of e = record {
  namespace_id = e.namespace_id;
  subspace_id = e.subspace_id;
  timestamp = e.timestamp;
  payload_length = e.payload_length;
  payload_digest = e.payload_digest;
}

abbrev pub entry_with : EntryFields → Path → Entry
entry_with f path = record {
  namespace_id = f.namespace_id;
  subspace_id = f.subspace_id;
  path = path;
  timestamp = f.timestamp;
  payload_length = f.payload_length;
  payload_digest = f.payload_digest;
}

-- what an entry of the code stands for, whose path is lent
abbrev pub entry_lent : LentEntry → Entry
entry_lent e = entry_with e.fields (path_in e.path.now)

-- ---- well formed: what 5 tests
abbrev pub well_formed_entry : Entry → Bool
well_formed_entry e = well_formed e.path

-- what the language says of a record
pub record TypedEntry (e : Entry) : Type 0 where
  pub namespace : TypedId e.namespace_id
  pub subspace : TypedId e.subspace_id
  pub path : TypedPath e.path
  pub time : U64 e.timestamp
  pub size : U64 e.payload_length
  pub digest : TypedId e.payload_digest

-- what lying inside asks of all but the paths
unfoldable pub fields_lie_inside : List ℕ → AreaHead → EntryFields → Bool
fields_lie_inside n h f =
    same_bytes n f.namespace_id
    && (includes_subspace h.subspace (Some f.subspace_id)
    && includes_time h.times f.timestamp)

-- 5 unless both are well formed
unfoldable pub says_entry_inside : List ℕ → Area → Entry → Said Bool
says_entry_inside n r e = said_if (well_formed_area r && well_formed_entry e) (entry_lies_inside n (area_of r) (entry_of e))
