-- docs/FORMAT.md, "3d ranges": the subspaces of a 3d range against those of another.
use Rattle.std.specs.Prelude.{Option, Some, None, List, [], ◌++◌, Bool, true, false, cond, ℕ}
use Rattle.codec.specs.Bytes.{same_bytes}
use Rattle.codec.specs.Reader.{Reader, give, some_bytes, and_then, guard, checked, mapped}
use Rattle.range_3d.specs.declared.Range.{Range}
use Rattle.range_subspaces.specs.declared.IdSource.{IdSource}
use Rattle.range_subspaces.specs.declared.IdSource.TheVariants.{Nowhere, Start, End, Written}
use Rattle.range_subspaces.specs.declared.Sources.{Sources}

-- ---- writing: an id that is the reference's start or end is not written, nor is an open end
abbrev pub same_end : Option (List ℕ) → List ℕ → Bool
same_end None id = false
same_end (Some end) id = same_bytes id end

unfoldable pub source_of : Range (List ℕ) → List ℕ → IdSource
source_of r id = cond (same_bytes id r.start) Start (cond (same_end r.end id) End Written)

abbrev pub end_source : Range (List ℕ) → Option (List ℕ) → IdSource
end_source r None = Nowhere
end_source r (Some id) = source_of r id

unfoldable pub sources_of : Range (List ℕ) → Range (List ℕ) → Sources
sources_of r v = record { start = source_of r v.start; end = end_source r v.end }

abbrev pub is_written : IdSource → Bool
is_written Written = true
is_written Nowhere = false
is_written Start = false
is_written End = false

unfoldable pub id_bytes : Range (List ℕ) → List ℕ → List ℕ
id_bytes r id = cond (is_written (source_of r id)) id []

abbrev pub end_bytes : Range (List ℕ) → Option (List ℕ) → List ℕ
end_bytes r None = []
end_bytes r (Some id) = id_bytes r id

unfoldable pub subspaces_bytes : Range (List ℕ) → Range (List ℕ) → List ℕ
subspaces_bytes r v = id_bytes r v.start ++ end_bytes r v.end

-- ---- reading

-- the reference's end, unless it is open
abbrev pub give_end : Option (List ℕ) → Reader (List ℕ)
give_end None = guard false (give [])
give_end (Some id) = give id

-- an id that a flag could name is refused
abbrev pub read_id : Range (List ℕ) → IdSource → Reader (List ℕ)
read_id r Nowhere = guard false (give [])
read_id r Start = give r.start
read_id r End = give_end r.end
read_id r Written = checked (λ id. is_written (source_of r id)) (some_bytes 32)

abbrev pub read_end : Range (List ℕ) → IdSource → Reader (Option (List ℕ))
read_end r Nowhere = give None
read_end r Start = mapped Some (read_id r Start)
read_end r End = mapped Some (read_id r End)
read_end r Written = mapped Some (read_id r Written)

abbrev pub subspaces_up_to : List ℕ → Option (List ℕ) → Range (List ℕ)
subspaces_up_to start end = record { start = start; end = end }

unfoldable pub read_subspaces : Range (List ℕ) → Sources → Reader (Range (List ℕ))
read_subspaces r s =
    and_then (read_id r s.start) (λ start.
    mapped (subspaces_up_to start) (
    read_end r s.end))
