-- docs/FORMAT.md, "Entries": entries against a namespace and an area, on records. 5 is tested on the area and on the entry, then 3: the entry lies inside.
use Rattle.std.specs.Prelude.{List, Bool, ◌&&◌, ℕ}
use Rattle.codec.specs.Format.{Format, verdict_by}
use Rattle.codec.specs.Reader.{Reader, mapped, on_formed}
use Rattle.grouping.specs.Record.{Area, area_of, well_formed_area}
use Rattle.entry.specs.Record.{Entry, entry_of, entry_from, well_formed_entry}
use Rattle.entry.specs.Entry.{entry_lies_inside}
use Rattle.entry_area.specs.Entry.{entry_bytes, read_entry}

abbrev pub against_namespace_area : List ℕ → Area → Format Entry
against_namespace_area n r = record {
  check = λ e. verdict_by (well_formed_area r && well_formed_entry e) (entry_lies_inside n (area_of r) (entry_of e));
  encode = λ e. entry_bytes (area_of r) (entry_of e);
}

unfoldable pub read_against_namespace_area : Bool → List ℕ → Area → Reader Entry
read_against_namespace_area canonic n r = on_formed (well_formed_area r) (mapped entry_from (read_entry canonic n (area_of r)))
