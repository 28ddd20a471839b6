use Rattle.codec.proofs.Prelude.{◌≡◌, refl, ◌∙◌, ap, true}
use Rattle.path.specs.Record.{Path}
use Rattle.path.proofs.Growing.{in_empty}
use Rattle.range_3d.specs.declared.Range3dHead.{Range3dHead}
use Rattle.range_3d.specs.Record.{range_with}
use Rattle.flat.specs.RangeRecord.{range_flat}
use Rattle.flat_records.proofs.range_record.store_range.Goals as goal

-- beside an open end no path is part of a 3d range
open_with : (h : Range3dHead) (start p q : Path) → h.end_open ≡ true → range_with h start p ≡ range_with h start q
open_with h start p q e = rw e refl

pub returns-then-head : goal.returns-then-head
returns-then-head c =
    let h = c.args.head in
    c.store.ensures.range (λ _. in_empty) ∙ ap range_flat (open_with h _ _ _ c.if-head.true)
