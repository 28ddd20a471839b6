-- What the reader's private functions are stated by.
use Rattle.std.specs.Prelude.{◌≡◌, Result, [], Bool, true, ℕ}
use Rattle.codec.specs.declared.Decoded.{Decoded}
use Rattle.codec.specs.declared.DecodeError.{DecodeError}
use Rattle.codec.specs.Answers.{Answer}
use Rattle.codec.specs.Reader.{Reader, and_then, mapped, Joins}
use Rattle.grouping.specs.declared.TimeRange.{TimeRange}
use Rattle.path.specs.Record.{Path, path_from}
use Rattle.range_3d.specs.declared.Range.{Range}
use Rattle.range_3d.specs.Record.{paths_with, sized_paths}
use Rattle.range_paths.specs.Records.{read_paths_by}
use Rattle.range_times.specs.Header.{unpack_header as unpackTimes}
use Rattle.range_times.specs.Times.{read_times}
use Rattle.range_header.specs.declared.Range3dHeader.{Range3dHeader}
use Rattle.range3d_range3d.specs.Range.{sides_in}

unfoldable pub read_paths_times : Range Path → TimeRange → Range3dHeader → ℕ → Reader (Range Path × TimeRange)
read_paths_times r times h b =
    and_then (read_paths_by sized_paths h.path_end_open (sides_in h) r) (λ paths.
    mapped (λ t. (paths, t)) (
    read_times times h.times_end_open (unpackTimes b)))

-- the times, and the two records that the paths were read into. Both are empty beside a refusal, and the end's beside an open end
pub record ReadsEnds (end_open : Bool) (r : Result (Decoded TimeRange) DecodeError) (start end : Path) (x : Answer (Range Path × TimeRange)) : Type 0 where
  pub reads : Joins {B = Path × Path} (λ t p. (paths_with p.0 end_open p.1, t)) (path_from [], path_from []) r (start, end) x
  pub no_end : end_open ≡ true → end ≡ path_from []
