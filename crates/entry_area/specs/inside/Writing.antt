-- What the writer's private functions are stated by.
use Rattle.std.specs.Prelude.{List, ◌++◌, ℕ}
use Rattle.grouping.specs.declared.TimeRange.{TimeRange}
use Rattle.grouping.specs.declared.AreaHead.{AreaHead}
use Rattle.entry.specs.declared.EntryFields.{EntryFields}
use Rattle.entry_area_end.specs.declared.End.{End}
use Rattle.entry_area_end.specs.End.{end_of, end_from}
use Rattle.entry_area.specs.Entry.{start_of}

-- the fields after the path
abbrev pub end_in : EntryFields → End
end_in f = end_from f.timestamp f.payload_length f.payload_digest

-- what stands after the id, by the bytes of the path, and all bytes
abbrev pub tail_bytes : TimeRange → EntryFields → List ℕ → List ℕ
tail_bytes r f path = path ++ end_of r (end_in f)

abbrev pub known_bytes : AreaHead → EntryFields → List ℕ → List ℕ
known_bytes h f path = start_of h.times h.subspace f.subspace_id (end_in f) ++ tail_bytes h.times f path
