-- docs/FORMAT.md, "3d ranges": the same, on records. 5 is tested on the reference and on the paths.
use Rattle.std.specs.Prelude.{◌≡◌, Result, List, [], Bool, true, ◌&&◌, ℕ, length}
use Rattle.codec.specs.declared.DecodeError.{DecodeError}
use Rattle.codec.specs.Answers.{Answer, refused, answer_beside, Said}
use Rattle.codec.specs.Reader.{Reader, mapped, on_formed}
use Rattle.path.specs.Record.{Path, path_from}
use Rattle.path.specs.Answers.{said_if}
use Rattle.range_3d.specs.declared.Range.{Range}
use Rattle.range_3d.specs.Range3d.{end_named}
use Rattle.range_3d.specs.Record.{paths_of, paths_from, paths_with, sized_paths}
use Rattle.range_paths.specs.declared.Sides.{Sides}
use Rattle.range_paths.specs.declared.NearPath.{NearPath}
use Rattle.range_paths.specs.declared.MeasuredPaths.{MeasuredPaths}
use Rattle.range_paths.specs.Paths.{from_start, shared_with, paths_bytes, read_paths}

-- 5 unless the reference passes the test
abbrev pub read_paths_by : (Range Path → Bool) → Bool → Sides → Range Path → Reader (Range Path)
read_paths_by formed end_open s r = on_formed (formed r) (mapped paths_from (read_paths (paths_of r) end_open s))

-- ---- writing: what is answered of records, with the numbers of docs/FORMAT.md, "Refusals". The sizes of the paths are tested

-- a path's side, and how many components it shares there
abbrev pub near_of : Range (List (List ℕ)) → List (List ℕ) → NearPath
near_of r p = record { from_start = from_start r p; shared = shared_with r p }

-- the same of start and end, and the length of their bytes
abbrev pub measure_of : Range (List (List ℕ)) → Range (List (List ℕ)) → MeasuredPaths
measure_of r v = record { start = near_of r v.start; end = end_named (near_of r) v.end; len = length (paths_bytes r v) }

unfoldable pub measure_in : Range Path → Range Path → Said MeasuredPaths
measure_in r v = said_if (sized_paths r && sized_paths v) (measure_of (paths_of r) (paths_of v))

-- ---- reading: the two records that the paths were read into. Both are empty beside a refusal, and the end's beside an open end
pub record ReadsPaths (end_open : Bool) (r : Result ℕ DecodeError) (start end : Path) (x : Answer (Range Path)) : Type 0 where
  pub answer : answer_beside r (paths_with start end_open end) ≡ x
  pub beside : (k : ℕ) → x ≡ refused k → (start ≡ path_from []) × (end ≡ path_from [])
  pub no_end : end_open ≡ true → end ≡ path_from []
