-- docs/FORMAT.md, "3d ranges": a 3d range against a 3d range, on plain values.
use Rattle.std.specs.Prelude.{List, [], ◌∷◌, ◌++◌, Bool, ℕ}
use Rattle.codec.specs.Header.{read_header}
use Rattle.codec.specs.Reader.{Reader, one_byte, and_then, mapped}
use Rattle.grouping.specs.declared.TimeRange.{TimeRange}
use Rattle.grouping.specs.Range.{is_open}
use Rattle.range_3d.specs.declared.Range.{Range}
use Rattle.range_3d.specs.Range3d.{Range3dValue, open_end}
use Rattle.range_subspaces.specs.declared.Sources.{Sources}
use Rattle.range_subspaces.specs.Subspaces.{sources_of, subspaces_bytes, read_subspaces}
use Rattle.range_paths.specs.declared.Sides.{Sides}
use Rattle.range_paths.specs.Paths.{sides_of, paths_bytes, read_paths}
use Rattle.range_times.specs.Header.{unpack_header as unpackTimes, pack_header as packTimes}
use Rattle.range_times.specs.Times.{header_of as timesHeader, times_bytes, read_times}
use Rattle.range_header.specs.declared.Range3dHeader.{Range3dHeader}
use Rattle.range_header.specs.Header.{unpack_header, pack_header}

-- ---- writing: two header bytes, subspaces, paths, times

-- by the sides of the paths, and whether their end is open
abbrev pub header_with : Range (List ℕ) → Range (List ℕ) → Bool → Bool → Bool → TimeRange → Range3dHeader
header_with r subspaces startFromStart end_open end_from_start times = record {
  subspace_start = (sources_of r subspaces).start;
  subspace_end = (sources_of r subspaces).end;
  path_start_from_start = startFromStart;
  path_end_open = end_open;
  path_end_from_start = end_from_start;
  times_end_open = is_open times.end;
}

unfoldable pub header_of : Range3dValue → Range3dValue → Range3dHeader
header_of r v =
    let sides = sides_of r.paths v.paths in
    header_with r.subspaces v.subspaces sides.start_from_start (open_end v.paths.end) sides.end_from_start v.times

abbrev pub head_bytes : Range3dHeader → TimeRange → TimeRange → List ℕ
head_bytes h r times = pack_header h ∷ packTimes (timesHeader r times) ∷ []

abbrev pub rest_bytes : Range3dValue → Range3dValue → List ℕ
rest_bytes r v = paths_bytes r.paths v.paths ++ times_bytes r.times v.times

abbrev pub parts_bytes : Range3dValue → Range3dValue → List ℕ
parts_bytes r v = subspaces_bytes r.subspaces v.subspaces ++ rest_bytes r v

unfoldable pub range_bytes : Range3dValue → Range3dValue → List ℕ
range_bytes r v = head_bytes (header_of r v) r.times v.times ++ parts_bytes r v

-- ---- reading
abbrev pub sources_in : Range3dHeader → Sources
sources_in h = record { start = h.subspace_start; end = h.subspace_end }

abbrev pub sides_in : Range3dHeader → Sides
sides_in h = record { start_from_start = h.path_start_from_start; end_from_start = h.path_end_from_start }

abbrev pub value_from : Range (List ℕ) → Range (List (List ℕ)) → TimeRange → Range3dValue
value_from subspaces paths times = record { subspaces = subspaces; paths = paths; times = times }

-- b is the second header byte
unfoldable pub read_parts : Range3dValue → Range3dHeader → ℕ → Reader Range3dValue
read_parts r h b =
    and_then (read_subspaces r.subspaces (sources_in h)) (λ subspaces.
    and_then (read_paths r.paths h.path_end_open (sides_in h)) (λ paths.
    mapped (value_from subspaces paths) (
    read_times r.times h.times_end_open (unpackTimes b))))

-- both header bytes are read before a flag is tested
unfoldable pub read_range : Range3dValue → Reader Range3dValue
read_range r =
    and_then (read_header unpack_header) (λ h.
    and_then one_byte (λ b.
    read_parts r h b))
