-- What the reader's private functions are stated by.
use Rattle.std.specs.Prelude.{Option, Some, None, [], Bool, false}
use Rattle.codec.specs.Reader.{Reader, give, guard, choose}
use Rattle.path.specs.Record.{Path, path_from, sized}
use Rattle.path_relative.specs.Records.{read_against_by}
use Rattle.range_3d.specs.declared.Range.{Range}

abbrev pub read_from_end_in : Option Path → Reader Path
read_from_end_in None = guard false (give (path_from []))
read_from_end_in (Some end) = read_against_by sized false end

abbrev pub read_side_in : Range Path → Bool → Reader Path
read_side_in r from_start = choose from_start (read_against_by sized false r.start) (read_from_end_in r.end)
