-- docs/FORMAT.md, "Entries against an entry": the same, on records. 5 is tested on the reference and on the entry; nothing lies outside.
use Rattle.std.specs.Prelude.{true, ◌&&◌}
use Rattle.codec.specs.Format.{Format, verdict_by}
use Rattle.codec.specs.Reader.{Reader, mapped, on_formed}
use Rattle.entry.specs.Record.{Entry, entry_of, entry_from, well_formed_entry}
use Rattle.entry_entry.specs.Entry.{entry_bytes, read_entry}

abbrev pub against_entry : Entry → Format Entry
against_entry r = record {
  check = λ e. verdict_by (well_formed_entry r && well_formed_entry e) true;
  encode = λ e. entry_bytes (entry_of r) (entry_of e);
}

unfoldable pub read_against_entry : Entry → Reader Entry
read_against_entry r = on_formed (well_formed_entry r) (mapped entry_from (read_entry (entry_of r)))
