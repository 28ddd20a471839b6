-- docs/ABI.md, "Records": flat bytes and records determine each other.
use Rattle.std.specs.Prelude.{◌≡◌, List, Bool, true, ℕ, length}
use Rattle.codec.specs.Answers.{AllBytes}
use Rattle.path.specs.Record.{well_formed, TypedPath}
use Rattle.grouping.specs.Record.{well_formed_area, TypedArea}
use Rattle.entry.specs.Record.{well_formed_entry, TypedEntry}
use Rattle.range_3d.specs.Record.{well_formed_range3d, TypedRange3d}
use Rattle.path.specs.Flat.{path_size, path_flat, path_in}
use Rattle.flat.specs.AreaRecord.{area_size, area_flat, area_in}
use Rattle.flat.specs.EntryRecord.{entry_size, entry_flat, entry_in}
use Rattle.flat.specs.RangeRecord.{range_size, range_flat, range_in}

-- a well-formed record is loaded from the bytes that it is stored as; bytes of that size load as a well-formed record only if it is stored as
-- just these bytes, so that all others are refused with 5
pub record Flat {A : Type 0} (Typed : A → Type 0) (formed : A → Bool) (flat : A → List ℕ) (load : List ℕ → A) (size : ℕ) : Type 0 where
  pub long : (a : A) → Typed a → length (flat a) ≡ size
  pub loads : (a : A) → Typed a → formed a ≡ true → load (flat a) ≡ a
  pub stores : (s : List ℕ) → length s ≡ size → AllBytes s → formed (load s) ≡ true → flat (load s) ≡ s

pub record FlatLaws : Type 0 where
  pub paths : Flat TypedPath well_formed path_flat path_in path_size
  pub areas : Flat TypedArea well_formed_area area_flat area_in area_size
  pub entries : Flat TypedEntry well_formed_entry entry_flat entry_in entry_size
  pub ranges : Flat TypedRange3d well_formed_range3d range_flat range_in range_size
