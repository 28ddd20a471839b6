-- Entries against a namespace and a well-formed area are a lawful format, and read back leniently too.
use Rattle.codec.proofs.Prelude.{◌≡◌, ap, ◌∙◌, List, Bool, true, ℕ}
use Rattle.codec.specs.Bytes.{TypedId}
use Rattle.codec.specs.Format.{Format, verdict_by, Valid, Writes}
use Rattle.codec.specs.Reads.{ReadsBack}
use Rattle.codec.specs.Lawful.{Lawful}
use Rattle.codec.specs.Demand3.{Demand3}
use Rattle.codec.proofs.Readers.{reads_as, back_as, mapped_back}
use Rattle.codec.proofs.Lawful.{verdict_allowed, lawful_of, reshaped_lawful, reshaped_back}
use Rattle.codec.proofs.Demand3.{demand3}
use Rattle.path.specs.Limits.{path_ok}
use Rattle.path.proofs.Limits.{path_ok_lem, ok_path}
use Rattle.grouping.specs.Record.{Area, area_of, well_formed_area, TypedArea}
use Rattle.grouping.specs.Area.{AreaValue}
use Rattle.grouping.proofs.Record.{apart_area}
use Rattle.entry.specs.Record.{Entry, entry_of, entry_from, well_formed_entry, TypedEntry}
use Rattle.entry.specs.Entry.{EntryValue, TypedEntryValue, entry_lies_inside}
use Rattle.entry.proofs.Record.{apart_entry, made_entry}
use Rattle.entry_area.specs.Entry.{entry_bytes, read_entry}
use Rattle.entry_area.specs.Records.{against_namespace_area, read_against_namespace_area}
use Rattle.entry_area.specs.Relations.{EntryAs}
use Rattle.entry_area.proofs.Entry.{entry_reads, entry_reads_back, entry_empty}

-- ---- on values
module _ (n : List ℕ) (r : AreaValue) where
  abbrev on_values : Format EntryValue
  on_values = record { check = λ v. verdict_by (path_ok v.path) (entry_lies_inside n r v); encode = entry_bytes r }

  entry_writes : (v : EntryValue) (e : List ℕ) → EntryAs n r v e → Writes TypedEntryValue on_values v e
  entry_writes v e x = record { valid = record { typed = x.typed; allows = rw (ok_path v.path x.path, x.inside) }; bytes = x.bytes }

  writes_entry : (v : EntryValue) (e : List ℕ) → Writes TypedEntryValue on_values v e → EntryAs n r v e
  writes_entry v e w =
      let k = verdict_allowed (path_ok v.path) (entry_lies_inside n r v) w.valid.allows in
      record { typed = w.valid.typed; path = path_ok_lem v.path w.valid.typed.path k.0; inside = k.1; bytes = w.bytes }

-- ---- on records
module _ (n : List ℕ) (id : TypedId n) (r : Area) (t : TypedArea r) (w : well_formed_area r ≡ true) where
  abbrev on_records : Format Entry
  on_records = record { check = λ e. verdict_by (well_formed_entry e) (entry_lies_inside n (area_of r) (entry_of e)); encode = λ e. entry_bytes (area_of r) (entry_of e) }

  record_out : (e : Entry) → Valid TypedEntry on_records e → Valid TypedEntryValue (on_values n (area_of r)) (entry_of e) × (entry_from (entry_of e) ≡ e)
  record_out e v =
      let ok = verdict_allowed (well_formed_entry e) (entry_lies_inside n (area_of r) (entry_of e)) v.allows in
      let x = apart_entry e v.typed ok.0 in
      (record { typed = x.typed; allows = rw (ok_path (entry_of e).path x.ok, ok.1) }, x.made)

  record_in : (v : EntryValue) → Valid TypedEntryValue (on_values n (area_of r)) v → Valid TypedEntry on_records (entry_from v) × (entry_of (entry_from v) ≡ v)
  record_in v a =
      let ok = verdict_allowed (path_ok v.path) (entry_lies_inside n (area_of r) v) a.allows in
      let x = made_entry v a.typed (path_ok_lem v.path a.typed.path ok.0) in
      (record { typed = x.typed; allows = rw x.well (ap (verdict_by true) (ap (entry_lies_inside n (area_of r)) x.back ∙ ok.1)) }, x.back)

  pub entry_lawful : Lawful TypedEntry (against_namespace_area n r) (read_against_namespace_area true n r)
  unfolding read_against_namespace_area
  entry_lawful =
      let x = apart_area r t w in
      rw w (reshaped_lawful TypedEntryValue (on_values n (area_of r)) TypedEntry entry_of entry_from on_records.check record_out record_in (read_entry true n (area_of r))
      (lawful_of _ _ _
      (reads_as _ _ _ (entry_reads n (area_of r) id x.typed.subspace t.times x.ok) (entry_writes n (area_of r)) (writes_entry n (area_of r)))
      (entry_empty n (area_of r) true)))

  pub entry_demand3 : Demand3 TypedEntry (against_namespace_area n r) (read_against_namespace_area true n r)
  entry_demand3 = demand3 TypedEntry (against_namespace_area n r) (read_against_namespace_area true n r) entry_lawful

  pub entry_back : (canonic : Bool) → ReadsBack (read_against_namespace_area canonic n r) (Writes TypedEntry (against_namespace_area n r))
  unfolding read_against_namespace_area
  entry_back canonic =
      let x = apart_area r t w in
      rw w (back_as _ _ _
      (mapped_back entry_from (read_entry canonic n (area_of r)) _ (back_as _ _ _ (entry_reads_back n (area_of r) id x.typed.subspace t.times x.ok canonic) (writes_entry n (area_of r))))
      (reshaped_back TypedEntryValue (on_values n (area_of r)) TypedEntry entry_of entry_from on_records.check record_out record_in))
