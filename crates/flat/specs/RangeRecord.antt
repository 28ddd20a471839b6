-- docs/ABI.md, "Records": a 3d range as flat bytes, the start, the mark of an open end and the end of its subspaces, then of its paths, then its times.
use Rattle.std.specs.Prelude.{List, ◌∷◌, ◌++◌, Bool, ◌&&◌, ℕ, ◌+◌, take, drop}
use Rattle.codec.specs.Header.{bit}
use Rattle.path.specs.Record.{Path}
use Rattle.range_3d.specs.declared.Range.{Range}
use Rattle.range_3d.specs.declared.Range3dHead.{Range3dHead}
use Rattle.range_3d.specs.Record.{Range3d}
use Rattle.path.specs.Flat.{path_size, path_flat, path_in}
use Rattle.flat.specs.Optional.{option_flat, option_marked, option_in}
use Rattle.flat.specs.PathRecord.{path_if}
use Rattle.flat.specs.Times.{times_size, times_flat, times_marked, times_in}

-- where the mark and the end of the paths and the times start, and how many bytes there are in all
abbrev pub range_path_open : ℕ
range_path_open = 65 + path_size

abbrev pub range_path_end : ℕ
range_path_end = range_path_open + 1

abbrev pub range_times_start : ℕ
range_times_start = range_path_end + path_size

abbrev pub range_size : ℕ
range_size = range_times_start + times_size

abbrev pub subspaces_flat : Range (List ℕ) → List ℕ
subspaces_flat s = s.start ++ option_flat 32 (λ id. id) s.end

abbrev pub paths_flat : Range Path → List ℕ
paths_flat p = path_flat p.start ++ option_flat path_size path_flat p.end

unfoldable pub range_flat : Range3d → List ℕ
range_flat r = subspaces_flat r.subspaces ++ (paths_flat r.paths ++ times_flat r.times)

-- a head and two paths as they are stored: the second stands after its mark, whatever the mark says
unfoldable pub range_stored : Range3dHead → Path → Path → List ℕ
range_stored h start end = subspaces_flat h.subspaces ++ ((path_flat start ++ (bit h.end_open ∷ path_flat end)) ++ times_flat h.times)

-- every mark is 0 or 1, and beside the mark of an open end stand zeros
unfoldable pub range_marked : List ℕ → Bool
range_marked s = option_marked 32 (drop 32 s) && (option_marked path_size (drop range_path_open s) && times_marked (drop range_times_start s))

abbrev pub subspaces_in : List ℕ → Range (List ℕ)
subspaces_in s = record { start = take 32 s; end = option_in (take 32) (drop 32 s) }

unfoldable pub range_in : List ℕ → Range3d
range_in s = record {
  subspaces = subspaces_in s;
  paths = record { start = path_if (range_marked s) (drop 65 s); end = option_in path_in (drop range_path_open s) };
  times = times_in (drop range_times_start s);
}
