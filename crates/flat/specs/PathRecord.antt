-- A path as a part of a flat record.
use Rattle.std.specs.Prelude.{List, Bool, cond, ℕ, ◌+◌}
use Rattle.path.specs.Record.{Path}
use Rattle.path.specs.Limits.{max_component_count}
use Rattle.path.specs.Flat.{path_in}

-- the path that starts with the first byte; where the bytes are no record's for another reason, one with a count that no path has
abbrev pub path_if : Bool → List ℕ → Path
path_if marked s = record {
  bytes = (path_in s).bytes;
  lengths = (path_in s).lengths;
  count = cond marked (path_in s).count (max_component_count + 1);
}
