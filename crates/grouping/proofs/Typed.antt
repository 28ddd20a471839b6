-- What the language says of a record, from what owning one tells.
use Rattle.codec.proofs.Prelude.{List, ℕ, ◌≤◌, arith, Val, shadow, Is}
use denote.Struct.Declared as struct
use Rattle.grouping.specs.declared.RangeEnd.{RangeEnd}
use Rattle.grouping.specs.declared.RangeEnd.TheVariants.{Closed, Open}
use Rattle.grouping.specs.declared.TimeRange.{TimeRange}
use Rattle.grouping.specs.Range.{TypedRange, top, end_value}

typed_end : (x : ℕ) (e : RangeEnd) (vs : List Val)
    → shadow ((Rattle.grouping.specs.contracts.RangeEnd.the_field).row.own_val ((Rattle.grouping.specs.contracts.TimeRange.the_type).to (record { start = x; end = e })).1.0 vs) → end_value e ≤ top
typed_end x (Closed y) vs g = omega (arith, g.1.1.1.1.0.1)
typed_end x Open vs g = omega arith

pub typed_range : (t : TimeRange) {vs : List Val} → Is (struct.row Rattle.grouping.specs.contracts.TimeRange.the_type) t vs → TypedRange t
typed_range t g = record { start = omega (arith, g.1.1.0.1); end = typed_end t.start t.end _ g.1.1.1.0 }
