-- A 3d range whose paths are lent: what the language says of it.
use Rattle.codec.proofs.Prelude.{◌≡◌, List, Bool, true, false, ℕ, drop}
use Rattle.codec.specs.Answers.{AllBytes}
use Rattle.codec.specs.Bytes.{TypedId}
use Rattle.codec.proofs.Bytes.{AllBytes-take, AllBytes-drop}
use Rattle.codec.proofs.Tests.{and_left, and_right}
use Rattle.path.specs.Limits.{max_path_length}
use Rattle.path.specs.Record.{well_formed, TypedPath}
use Rattle.path.specs.Flat.{bytes_start, path_in}
use Rattle.path.proofs.Record.{well_formed_lem}
use Rattle.grouping.specs.Range.{TypedRange}
use Rattle.range_3d.specs.declared.Range3dHead.{Range3dHead}
use Rattle.range_3d.specs.Range3d.{Both}
use Rattle.range_3d.specs.Record.{range_with, well_formed_range3d, TypedRange3d}

typed_in : (s : List ℕ) → AllBytes s → well_formed (path_in s) ≡ true → TypedPath (path_in s)
unfolding path_in
typed_in s b w = let k = well_formed_lem (path_in s) w in record { bytes = k.room; lengths = k.slots; small = AllBytes-take max_path_length (drop bytes_start s) (AllBytes-drop bytes_start s b) }

pub typed_lent : (h : Range3dHead) → Both TypedId h.subspaces × TypedRange h.times → (s t : List ℕ) → AllBytes s → AllBytes t
    → well_formed_range3d (range_with h (path_in s) (path_in t)) ≡ true → TypedRange3d (range_with h (path_in s) (path_in t))
typed_lent h k s t a b w = go h.end_open w
  where
    go : (o : Bool) → well_formed_range3d (range_with (record { subspaces = h.subspaces; end_open = o; times = h.times }) (path_in s) (path_in t)) ≡ true → TypedRange3d (range_with (record { subspaces = h.subspaces; end_open = o; times = h.times }) (path_in s) (path_in t))
    go true w = record { subspaces = k.0; paths = record { start = typed_in s a (and_left _ _ w); end = tt }; times = k.1 }
    go false w = record { subspaces = k.0; paths = record { start = typed_in s a (and_left _ _ w); end = typed_in t b (and_right (well_formed (path_in s)) _ w) }; times = k.1 }
