-- Areas against a well-formed area are a lawful format, and read back leniently too.
use Rattle.codec.proofs.Prelude.{◌≡◌, ap, ◌∙◌, List, Bool, true, ℕ, arith}
use Rattle.codec.specs.Format.{Format, verdict_by, Valid, Writes}
use Rattle.codec.specs.Reads.{ReadsBack}
use Rattle.codec.specs.Lawful.{Lawful}
use Rattle.codec.specs.Demand3.{Demand3}
use Rattle.codec.proofs.Readers.{reads_as, back_as, mapped_back}
use Rattle.codec.proofs.Lawful.{verdict_allowed, lawful_of, reshaped_lawful, reshaped_back}
use Rattle.codec.proofs.Demand3.{demand3}
use Rattle.path.specs.Limits.{path_ok}
use Rattle.path.proofs.Limits.{path_ok_lem, ok_path, typed_of}
use Rattle.grouping.specs.Record.{Area, area_of, area_from, well_formed_area, TypedArea}
use Rattle.grouping.specs.Range.{TypedRange}
use Rattle.grouping.specs.Area.{AreaValue, area_lies_inside}
use Rattle.grouping.proofs.Values.{TypedValue}
use Rattle.grouping.proofs.Record.{apart_area, made_area}
use Rattle.time_relative.proofs.Time.{within}
use Rattle.area_area.specs.Area.{area_bytes, read_area}
use Rattle.area_area.specs.Records.{against_area, read_against_area}
use Rattle.area_area.specs.Relations.{AreaAs}
use Rattle.area_area.proofs.Area.{inside, area_reads, area_reads_back, area_empty}

-- ---- on values
abbrev on_values : AreaValue → Format AreaValue
on_values r = record { check = λ a. verdict_by (path_ok a.path) (area_lies_inside r a); encode = area_bytes r }

module _ (r : AreaValue) (t : TypedRange r.times) where
  area_writes : (a : AreaValue) (e : List ℕ) → AreaAs r a e → Writes TypedValue (on_values r) a e
  area_writes a e x =
      let i = inside r a x.inside in
      record {
        valid = record {
          typed = record {
            subspace = x.typed;
            path = typed_of a.path x.path.all;
            times = record { start = omega (arith, (within r.times _ i.start).to, t.end); end = omega (arith, (within r.times _ i.end).to, t.end) };
          };
          allows = rw (ok_path a.path x.path, x.inside);
        };
        bytes = x.bytes;
      }

  writes_area : (a : AreaValue) (e : List ℕ) → Writes TypedValue (on_values r) a e → AreaAs r a e
  writes_area a e w =
      let v = verdict_allowed (path_ok a.path) (area_lies_inside r a) w.valid.allows in
      record { typed = w.valid.typed.subspace; path = path_ok_lem a.path w.valid.typed.path v.0; inside = v.1; bytes = w.bytes }

-- ---- on records
module _ (r : Area) (t : TypedArea r) (w : well_formed_area r ≡ true) where
  abbrev on_records : Format Area
  on_records = record { check = λ a. verdict_by (well_formed_area a) (area_lies_inside (area_of r) (area_of a)); encode = λ a. area_bytes (area_of r) (area_of a) }

  record_out : (a : Area) → Valid TypedArea on_records a → Valid TypedValue (on_values (area_of r)) (area_of a) × (area_from (area_of a) ≡ a)
  record_out a v =
      let ok = verdict_allowed (well_formed_area a) (area_lies_inside (area_of r) (area_of a)) v.allows in
      let x = apart_area a v.typed ok.0 in
      (record { typed = x.typed; allows = rw (ok_path (area_of a).path x.ok, ok.1) }, x.made)

  record_in : (v : AreaValue) → Valid TypedValue (on_values (area_of r)) v → Valid TypedArea on_records (area_from v) × (area_of (area_from v) ≡ v)
  record_in v a =
      let ok = verdict_allowed (path_ok v.path) (area_lies_inside (area_of r) v) a.allows in
      let x = made_area v a.typed (path_ok_lem v.path a.typed.path ok.0) in
      (record { typed = x.typed; allows = rw x.well (ap (verdict_by true) (ap (area_lies_inside (area_of r)) x.back ∙ ok.1)) }, x.back)

  pub area_lawful : Lawful TypedArea (against_area r) (read_against_area true r)
  unfolding read_against_area
  area_lawful =
      let x = apart_area r t w in
      rw w (reshaped_lawful TypedValue (on_values (area_of r)) TypedArea area_of area_from on_records.check record_out record_in (read_area true (area_of r))
      (lawful_of _ _ _
      (reads_as _ _ _ (area_reads (area_of r) x.typed.subspace t.times x.ok) (area_writes (area_of r) t.times) (writes_area (area_of r) t.times))
      (area_empty (area_of r) true)))

  pub area_demand3 : Demand3 TypedArea (against_area r) (read_against_area true r)
  area_demand3 = demand3 TypedArea (against_area r) (read_against_area true r) area_lawful

  pub area_back : (canonic : Bool) → ReadsBack (read_against_area canonic r) (Writes TypedArea (against_area r))
  unfolding read_against_area
  area_back canonic =
      let x = apart_area r t w in
      rw w (back_as _ _ _
      (mapped_back area_from (read_area canonic (area_of r)) _ (back_as _ _ _ (area_reads_back (area_of r) x.typed.subspace t.times x.ok canonic) (writes_area (area_of r) t.times)))
      (reshaped_back TypedValue (on_values (area_of r)) TypedArea area_of area_from on_records.check record_out record_in))
