-- docs/FORMAT.md, "Lists of writings": strict reading and writing determine each other, for the three kinds of records that are written in lists.
-- Each claim is the record `Demand3` of codec/specs/Demand3, about the formats and readers that the contracts of the code name:
--   accepts  at any start in any message, past its end too, strict reading accepts a value and a length exactly when the bytes there begin with what
--            writing that value gives, and this is its length;
--   unique   at most one value and length does;
--   follows  whatever follows, the answer is the same;
--   short    cut short anywhere, what was written is 1;
--   lists    for every list of writings, refused ones included, in one lent buffer of any length and content: every answer, the place, the whole
--            buffer, the readings back whatever follows, and one more that gives 1;
--   distinct two different lists of values that writing does not refuse never make the same bytes.
-- The hypotheses: the reference is well formed, and it and the values are values of the code's types.
use Rattle.std.specs.Prelude.{◌≡◌, List, true, ℕ, drop}
use Rattle.codec.specs.Bytes.{TypedId}
use Rattle.codec.specs.Answers.{accepted, AllBytes}
use Rattle.codec.specs.Demand3.{Demand3}
use Rattle.path.specs.Record.{Path, well_formed, TypedPath}
use Rattle.path_relative.specs.Records.{against_path, read_against_path}
use Rattle.grouping.specs.Record.{Area, area_of, well_formed_area, TypedArea}
use Rattle.grouping.specs.Area.{area_lies_inside}
use Rattle.area_area.specs.Records.{against_area, read_against_area}
use Rattle.entry.specs.Record.{Entry, entry_of, TypedEntry}
use Rattle.entry.specs.Entry.{entry_lies_inside}
use Rattle.entry_area.specs.Records.{against_namespace_area, read_against_namespace_area}

pub record Whole : Type 0 where
  -- paths against a path
  pub paths : (r : Path) → TypedPath r → well_formed r ≡ true → Demand3 TypedPath (against_path r) (read_against_path true r)
  -- areas against an area
  pub areas : (r : Area) → TypedArea r → well_formed_area r ≡ true → Demand3 TypedArea (against_area r) (read_against_area true r)
  -- entries against a namespace and an area
  pub entries : (n : List ℕ) → TypedId n → (r : Area) → TypedArea r → well_formed_area r ≡ true
      → Demand3 TypedEntry (against_namespace_area n r) (read_against_namespace_area true n r)
  -- an area or an entry that is answered lies inside the reference
  pub area_inside : (r : Area) → TypedArea r → well_formed_area r ≡ true → (s : List ℕ) (at : ℕ) (a : Area) (k : ℕ) → AllBytes s
      → read_against_area true r (drop at s) ≡ accepted a k → area_lies_inside (area_of r) (area_of a) ≡ true
  pub entry_inside : (n : List ℕ) → TypedId n → (r : Area) → TypedArea r → well_formed_area r ≡ true → (s : List ℕ) (at : ℕ) (e : Entry) (k : ℕ) → AllBytes s
      → read_against_namespace_area true n r (drop at s) ≡ accepted e k → entry_lies_inside n (area_of r) (entry_of e) ≡ true
