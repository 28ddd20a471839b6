-- docs/ABI.md, "Records": an area as flat bytes, the mark of any subspace, the id, the path, the times.
use Rattle.std.specs.Prelude.{Option, List, ◌++◌, Bool, ◌&&◌, ℕ, ◌+◌, take, drop}
use Rattle.grouping.specs.Record.{Area}
use Rattle.path.specs.Flat.{path_size, path_flat}
use Rattle.flat.specs.Optional.{option_flat, option_marked, option_in}
use Rattle.flat.specs.PathRecord.{path_if}
use Rattle.flat.specs.Times.{times_size, times_flat, times_marked, times_in}

-- where the times start, and how many bytes there are in all
abbrev pub area_times_start : ℕ
area_times_start = 33 + path_size

abbrev pub area_size : ℕ
area_size = area_times_start + times_size

abbrev pub subspace_flat : Option (List ℕ) → List ℕ
subspace_flat s = option_flat 32 (λ id. id) s

unfoldable pub area_flat : Area → List ℕ
area_flat a = subspace_flat a.subspace ++ (path_flat a.path ++ times_flat a.times)

-- the marks are 0 or 1, and an id beside the mark of any is zero
unfoldable pub area_marked : List ℕ → Bool
area_marked s = option_marked 32 s && times_marked (drop area_times_start s)

unfoldable pub area_in : List ℕ → Area
area_in s = record {
  subspace = option_in (take 32) s;
  path = path_if (area_marked s) (drop 33 s);
  times = times_in (drop area_times_start s);
}
