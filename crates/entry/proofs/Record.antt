-- Records of entries and their values: each well-formed record is the record of its values, and back.
use Rattle.codec.proofs.Prelude.{◌≡◌, true}
use Rattle.path.specs.Limits.{PathOk}
use Rattle.path.specs.Record.{components_of, path_from}
use Rattle.path.proofs.Limits.{typed_of}
use Rattle.path.proofs.Record.{well_formed_lem, formed_well, apart_path, made_path, components_of_lem}
use Rattle.entry.specs.Record.{Entry, entry_of, entry_from, well_formed_entry, TypedEntry}
use Rattle.entry.specs.Entry.{EntryValue, TypedEntryValue}

pub record ApartEntry (e : Entry) : Type 0 where
  pub typed : TypedEntryValue (entry_of e)
  pub ok : PathOk (components_of e.path)
  pub made : entry_from (entry_of e) ≡ e

pub apart_entry : (e : Entry) → TypedEntry e → well_formed_entry e ≡ true → ApartEntry e
unfolding entry_from
apart_entry e t w =
    let p = apart_path e.path t.path (well_formed_lem e.path w) in
    record {
      typed = record {
        namespace = t.namespace;
        subspace = t.subspace;
        path = typed_of (components_of e.path) p.ok.all;
        time = t.time;
        size = t.size;
        digest = t.digest;
      };
      ok = p.ok;
      made = rw p.made;
    }

pub record MadeEntry (v : EntryValue) : Type 0 where
  pub typed : TypedEntry (entry_from v)
  pub well : well_formed_entry (entry_from v) ≡ true
  pub back : entry_of (entry_from v) ≡ v

pub made_entry : (v : EntryValue) → TypedEntryValue v → PathOk v.path → MadeEntry v
unfolding entry_from
made_entry v t ok =
    let p = made_path v.path ok in
    record {
      typed = record { namespace = t.namespace; subspace = t.subspace; path = p.typed; time = t.time; size = t.size; digest = t.digest };
      well = formed_well (path_from v.path) p.well;
      back = rw (components_of_lem v.path);
    }
