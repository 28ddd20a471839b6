-- What the language says of a record, from what owning one tells.
use Rattle.codec.proofs.Prelude.{List, Bool, ℕ, Val, shadow, Is}
use Rattle.std.specs.Prelude.{Option, Some, None}
use denote.Struct.Declared as struct
use Rattle.codec.specs.Bytes.{TypedId}
use Rattle.path.proofs.Typed.{each_byte}
use Rattle.grouping.specs.declared.TimeRange.{TimeRange}
use Rattle.grouping.specs.Range.{TypedRange}
use Rattle.grouping.proofs.Typed.{typed_range}
use Rattle.range_3d.specs.declared.Range3dHead.{Range3dHead}
use Rattle.range_3d.specs.Range3d.{OnEnd, Both}

typed_end : (start : List ℕ) (end_open : Bool) (times : TimeRange) (e : Option (List ℕ)) (vs : List Val)
    → shadow ((Rattle.std.specs.contracts.option.Option.the_field (denote.Builtin.Array denote.Builtin.u8 (tt {0}) 32)).row.own_val
    ((Rattle.range_3d.specs.contracts.Range3dHead.the_type).to (record { subspaces = record { start = start; end = e }; end_open = end_open; times = times })).0.1.0 vs) → OnEnd TypedId e
typed_end start end_open times None vs g = tt
typed_end start end_open times (Some id) vs g = let a = g.1.1.1.1.0 in (a.1.0.1, each_byte id a.0 a.1.1)

pub typed_head : (h : Range3dHead) {vs : List Val} → Is (struct.row Rattle.range_3d.specs.contracts.Range3dHead.the_type) h vs → Both TypedId h.subspaces × TypedRange h.times
typed_head h g =
    let r = g.1.1.0 in
    let start = r.1.1.0 in
    (record { start = (start.1.0.1, each_byte h.subspaces.start start.0 start.1.1); end = typed_end h.subspaces.start h.end_open h.times h.subspaces.end _ r.1.1.1.0 }, typed_range h.times g.1.1.1.1.0)
