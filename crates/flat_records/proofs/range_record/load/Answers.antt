use Rattle.std.proofs.Common.{Bor}
use Rattle.std.specs.Bool.{then_some}
use Rattle.std.specs.Prelude.{Some, None}
use Rattle.codec.proofs.Prelude.{◌≡◌, refl, sym, ◌∙◌, ap, List, Bool, true, false, not, cond, ℕ}
use Rattle.path.specs.Flat.{path_in}
use Rattle.range_3d.specs.Range3d.{end_named}
use Rattle.range_3d.specs.Record.{range_with}
use Rattle.flat.proofs.RangeLaws.{range_lent}
use Rattle.flat_records.proofs.range_record.load.Goals as goal

-- the end that is lent where the mark is not that of an open end
end_lent : (b : Bool) (x : Bor (List ℕ)) → end_named (λ s. path_in s.now) (then_some (not b) x) ≡ cond b None (Some (path_in x.now))
end_lent true x = refl
end_lent false x = refl

pub returns-clause-ok : goal.returns-clause-ok
returns-clause-ok c =
    let h = c.head-head.result in
    let p = path_in c.path_start.result.now in
    let q = path_in c.path_end.result.now in
    let end = ap (end_named (λ (s : Bor (List ℕ)). path_in s.now)) c.then_some.ensures ∙ end_lent h.end_open c.path_end.result in
    (λ i. record { subspaces = h.subspaces; paths = record { start = p; end = end i }; times = h.times })
    ∙ (λ i. range_with (c.head-head.ensures i) p q)
    ∙ range_lent c.args.flat.now _ _ c.path_start.ensures c.path_end.ensures (sym c.is_marked.ensures ∙ c.if-not-is_marked.false)
