-- docs/FORMAT.md, "Distances": a time against a time, and against the nearer of a range's start and end.
use Rattle.std.specs.Prelude.{Bool, true, false, cond, not, ℕ, ◌+◌, ◌-◌, leb}
use Rattle.codec.specs.Reader.{Reader, checked, mapped}
use Rattle.compact_u64.specs.Number.{read_number}
use Rattle.grouping.specs.declared.RangeEnd.{RangeEnd}
use Rattle.grouping.specs.declared.RangeEnd.TheVariants.{Closed, Open}
use Rattle.grouping.specs.declared.TimeRange.{TimeRange}
use Rattle.grouping.specs.Range.{top, end_after}
use Rattle.time_distance.specs.declared.TimeDistance.{TimeDistance}

-- one of the two is zero
abbrev pub distance : ℕ → ℕ → ℕ
distance a b = (a - b) + (b - a)

-- an open end is top away from every time
abbrev pub distance_to : RangeEnd → ℕ → ℕ
distance_to (Closed e) x = distance x e
distance_to Open x = top

-- the nearer of start and end, the start on a tie; whether the time is at or after it; how far away
unfoldable pub nearest_of : TimeRange → ℕ → TimeDistance
nearest_of r x =
    cond (leb (distance x r.start) (distance_to r.end x))
    (record { from_start = true; added = leb r.start x; difference = distance x r.start })
    (record { from_start = false; added = not (end_after r.end x); difference = distance_to r.end x })

-- an open end is near to nothing
abbrev pub end_nearest : TimeRange → RangeEnd → TimeDistance
end_nearest r (Closed x) = nearest_of r x
end_nearest r Open = record { from_start = false; added = false; difference = 0 }

-- ---- reading: a difference d from a time, which may be a range's end

-- no time is that far from an open end, and none lies past top or below zero
abbrev pub reaches : RangeEnd → Bool → ℕ → Bool
reaches (Closed x) true d = leb (x + d) top
reaches (Closed x) false d = leb d x
reaches Open added d = false

abbrev pub time_from : RangeEnd → Bool → ℕ → ℕ
time_from (Closed x) true d = x + d
time_from (Closed x) false d = x - d
time_from Open added d = d

-- after a tag of w bits
unfoldable pub read_from : ℕ → RangeEnd → Bool → ℕ → Reader ℕ
read_from w from added tag =
    mapped (time_from from added) (
    checked (reaches from added) (
    read_number false w tag))

-- the start or the end of a range, as a flag says
abbrev pub side_of : TimeRange → Bool → RangeEnd
side_of r true = Closed r.start
side_of r false = r.end
