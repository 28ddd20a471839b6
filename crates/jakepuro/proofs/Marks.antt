-- What is answered where the bytes of a record have marks that are none: 5, since the record is not well formed.
use Rattle.std.specs.Prelude.{Err}
use Rattle.codec.proofs.Prelude.{◌≡◌, refl, List, Bool, true, false, ◌&&◌, ℕ}
use Rattle.codec.specs.declared.DecodeError.TheVariants as decoding
use Rattle.codec.specs.declared.EncodeError.TheVariants as encoding
use Rattle.codec.specs.Answers.{Answer, refused, refused_writing}
use Rattle.codec.specs.Format.{Format, refused_value, length_answer, WritesInto}
use Rattle.codec.proofs.Lending.{length_refused_value, put_refused_value, writes_into}
use Rattle.entry.specs.Record.{Entry}
use Rattle.area_area.specs.Records.{against_area}
use Rattle.entry_area.specs.Records.{against_namespace_area}
use Rattle.range3d_range3d.specs.Records.{against_range}
use Rattle.flat.specs.AreaRecord.{area_in, area_marked}
use Rattle.flat.specs.RangeRecord.{range_in, range_marked}
use Rattle.flat.proofs.AreaLaws.{area_unmarked, areas_unmarked}
use Rattle.flat.proofs.RangeLaws.{ranges_unmarked}
use Rattle.calls.specs.Calls.{Leaves}

-- ---- whatever the record
module _ {A : Type 0} (f : Format A) (v : A) (malformed : f.check v ≡ refused_value 5) where
  pub malformed_written : (l : List ℕ) → WritesInto f v (Err encoding.Malformed) l l
  malformed_written l = writes_into (put_refused_value (f.check v) (f.encode v) l 5 malformed)

  pub malformed_length : refused_writing 5 ≡ length_answer f v
  malformed_length = length_refused_value f v 5 malformed

pub malformed_left : {A B : Type 0} (store : A → B) {x : Answer A} (lent : B) → x ≡ refused 5 → Leaves store x lent lent (Err decoding.Malformed)
malformed_left store lent e = rw e (record { answer = refl; value = refl })

and_false : (a b : Bool) → b ≡ false → (a && b) ≡ false
and_false true b e = e
and_false false b e = refl

-- ---- areas
module _ (r v : List ℕ) where
  pub area_reference : area_marked r ≡ false → (against_area (area_in r)).check (area_in v) ≡ refused_value 5
  area_reference m = rw (areas_unmarked r v (rw m refl))

  pub area_value : area_marked v ≡ false → (against_area (area_in r)).check (area_in v) ≡ refused_value 5
  area_value m = rw (areas_unmarked r v (and_false (area_marked r) (area_marked v) m))

pub area_around : (namespace r : List ℕ) (e : Entry) → area_marked r ≡ false → (against_namespace_area namespace (area_in r)).check e ≡ refused_value 5
area_around namespace r e m = rw (area_unmarked r m)

-- ---- 3d ranges
module _ (r v : List ℕ) where
  pub range_reference : range_marked r ≡ false → (against_range (range_in r)).check (range_in v) ≡ refused_value 5
  range_reference m = rw (ranges_unmarked r v (rw m refl))

  pub range_value : range_marked v ≡ false → (against_range (range_in r)).check (range_in v) ≡ refused_value 5
  range_value m = rw (ranges_unmarked r v (and_false (range_marked r) (range_marked v) m))
