-- docs/FORMAT.md, "3d ranges": the paths of a 3d range against those of another.
use Rattle.std.specs.Prelude.{Option, Some, None, List, [], ◌++◌, Bool, true, false, cond, ℕ, leb}
use Rattle.codec.specs.Reader.{Reader, give, and_then, guard, mapped, choose}
use Rattle.path.specs.Prefix.{shared}
use Rattle.path_relative.specs.Against.{against_bytes, read_against}
use Rattle.range_3d.specs.declared.Range.{Range}
use Rattle.range_paths.specs.declared.Sides.{Sides}

-- ---- writing: each path against the reference's start or its end, whichever shares more leading components; the start on a tie
abbrev pub start_nearer : List (List ℕ) → Option (List (List ℕ)) → List (List ℕ) → Bool
start_nearer start None p = true
start_nearer start (Some end) p = leb (shared end p) (shared start p)

abbrev pub from_start : Range (List (List ℕ)) → List (List ℕ) → Bool
from_start r p = start_nearer r.start r.end p

-- an open end is written against nothing
abbrev pub end_from_start : Range (List (List ℕ)) → Option (List (List ℕ)) → Bool
end_from_start r None = false
end_from_start r (Some p) = from_start r p

unfoldable pub sides_of : Range (List (List ℕ)) → Range (List (List ℕ)) → Sides
sides_of r v = record { start_from_start = from_start r v.start; end_from_start = end_from_start r v.end }

abbrev pub nearer : List (List ℕ) → Option (List (List ℕ)) → List (List ℕ) → List (List ℕ)
nearer start None p = start
nearer start (Some end) p = cond (start_nearer start (Some end) p) start end

-- how many components a path shares with the nearer one
abbrev pub shared_with : Range (List (List ℕ)) → List (List ℕ) → ℕ
shared_with r p = shared (nearer r.start r.end p) p

unfoldable pub path_bytes : Range (List (List ℕ)) → List (List ℕ) → List ℕ
path_bytes r p = against_bytes (nearer r.start r.end p) p

abbrev pub end_bytes : Range (List (List ℕ)) → Option (List (List ℕ)) → List ℕ
end_bytes r None = []
end_bytes r (Some p) = path_bytes r p

unfoldable pub paths_bytes : Range (List (List ℕ)) → Range (List (List ℕ)) → List ℕ
paths_bytes r v = path_bytes r v.start ++ end_bytes r v.end

-- ---- reading: a flag that names an open end is refused
abbrev pub read_from_end : Option (List (List ℕ)) → Reader (List (List ℕ))
read_from_end None = guard false (give [])
read_from_end (Some end) = read_against false end

abbrev pub read_side : Range (List (List ℕ)) → Bool → Reader (List (List ℕ))
read_side r from_start = choose from_start (read_against false r.start) (read_from_end r.end)

-- the flag of an open end is not looked at
abbrev pub read_end : Range (List (List ℕ)) → Bool → Bool → Reader (Option (List (List ℕ)))
read_end r end_open from_start = choose end_open (give None) (mapped Some (read_side r from_start))

abbrev pub paths_up_to : List (List ℕ) → Option (List (List ℕ)) → Range (List (List ℕ))
paths_up_to start end = record { start = start; end = end }

unfoldable pub read_paths : Range (List (List ℕ)) → Bool → Sides → Reader (Range (List (List ℕ)))
read_paths r end_open s =
    and_then (read_side r s.start_from_start) (λ start.
    mapped (paths_up_to start) (
    read_end r end_open s.end_from_start))
