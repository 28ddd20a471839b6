-- What the laws of entries say: the bytes e are what writing an entry gives against r.
use Rattle.std.specs.Prelude.{◌≡◌, List, true, ℕ}
use Rattle.path.specs.Limits.{PathOk}
use Rattle.grouping.specs.Area.{AreaValue}
use Rattle.entry.specs.Entry.{EntryValue, TypedEntryValue, entry_lies_inside}
use Rattle.entry_area.specs.Entry.{entry_bytes}

pub record EntryAs (n : List ℕ) (r : AreaValue) (v : EntryValue) (e : List ℕ) : Type 0 where
  pub typed : TypedEntryValue v
  pub path : PathOk v.path
  pub inside : entry_lies_inside n r v ≡ true
  pub bytes : e ≡ entry_bytes r v
