-- docs/FORMAT.md, "Areas": an area against an area, on plain values.
use Rattle.std.specs.Prelude.{Option, Some, None, List, [], ◌∷◌, ◌++◌, Bool, true, false, cond, ◌&&◌, not, ℕ}
use Rattle.codec.specs.Bytes.{same_bytes}
use Rattle.codec.specs.Header.{read_header}
use Rattle.codec.specs.Reader.{Reader, give, some_bytes, and_then, guard, checked, mapped, choose}
use Rattle.path_relative.specs.Extension.{extension_bytes, read_extension}
use Rattle.grouping.specs.declared.TimeRange.{TimeRange}
use Rattle.grouping.specs.Area.{AreaValue, includes_subspace}
use Rattle.area_times.specs.declared.AreaHeader.{AreaHeader}
use Rattle.area_times.specs.Header.{unpack_header, pack_header, spare_bits}
use Rattle.area_times.specs.Times.{header_of, times_bytes, read_times}

-- ---- writing: header, id, start difference, end difference, path. The id is written where the reference has any subspace
abbrev pub id_written : Option (List ℕ) → Option (List ℕ) → Bool
id_written None None = false
id_written None (Some id) = true
id_written (Some r) s = false

abbrev pub subspace_bytes : Option (List ℕ) → Option (List ℕ) → List ℕ
subspace_bytes None None = []
subspace_bytes None (Some id) = id
subspace_bytes (Some r) s = []

-- the header and the id, by the subspaces and the times; what stands before the path
abbrev pub start_of : Option (List ℕ) → TimeRange → Option (List ℕ) → TimeRange → List ℕ
start_of r within s times = pack_header (header_of (id_written r s) within times) ∷ subspace_bytes r s

abbrev pub start_bytes : AreaValue → AreaValue → List ℕ
start_bytes r a = start_of r.subspace r.times a.subspace a.times

abbrev pub rest_bytes : AreaValue → AreaValue → List ℕ
rest_bytes r a = times_bytes r.times a.times ++ extension_bytes r.path a.path

unfoldable pub area_bytes : AreaValue → AreaValue → List ℕ
area_bytes r a = start_bytes r a ++ rest_bytes r a

-- ---- reading
abbrev pub same_id : Option (List ℕ) → List ℕ → Bool
same_id None id = false
same_id (Some r) id = same_bytes r id

-- the id, then the id against the reference's; strictly, an id equal to that is refused
unfoldable pub read_subspace : Bool → Option (List ℕ) → Bool → Reader (Option (List ℕ))
read_subspace canonic r written =
    choose written
    (mapped Some (checked (λ id. includes_subspace r (Some id) && cond canonic (not (same_id r id)) true) (some_bytes 32)))
    (give r)

abbrev pub value_from : Option (List ℕ) → TimeRange → List (List ℕ) → AreaValue
value_from subspace times path = record { subspace = subspace; path = path; times = times }

unfoldable pub read_parts : Bool → AreaValue → AreaHeader → Reader AreaValue
read_parts canonic r h =
    and_then (read_subspace canonic r.subspace h.id_written) (λ subspace.
    and_then (read_times canonic r.times h) (λ times.
    mapped (value_from subspace times) (
    read_extension canonic r.path)))

-- strictly, spare bits are refused before anything else
unfoldable pub read_area : Bool → AreaValue → Reader AreaValue
read_area canonic r =
    and_then (read_header unpack_header) (λ h.
    guard (cond canonic (not (spare_bits h)) true) (
    read_parts canonic r h))
