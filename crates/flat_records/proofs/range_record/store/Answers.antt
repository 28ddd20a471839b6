use mir.Val.{bool_byte}
use Rattle.std.specs.Prelude.{Option, option_copied}
use Rattle.codec.proofs.Prelude.{◌≡◌, refl, ◌∙◌, sym, ap, List, [], ◌∷◌, ◌++◌, append_assoc, Bool, true, false, ℕ, arith}
use Rattle.codec.specs.Header.{bit}
use Rattle.path.proofs.Puts.{puts_byte, puts_whole}
use Rattle.flat.specs.Times.{times_flat}
use Rattle.flat.specs.RangeRecord.{range_size, range_stored, subspaces_flat}
use Rattle.flat.proofs.Parts.{puts_part}
use Rattle.flat.proofs.PathLaws.{path_stored}
use Rattle.flat.proofs.RangeLaws.{stored_flat}
use Rattle.flat_records.proofs.range_record.store.Goals as goal

joined : (x p : List ℕ) (mark : ℕ) (q t : List ℕ) → (((x ++ p) ++ (mark ∷ [])) ++ q) ++ t ≡ x ++ ((p ++ (mark ∷ q)) ++ t)
joined x p mark q t =
    append_assoc ((x ++ p) ++ (mark ∷ [])) q t ∙ append_assoc (x ++ p) (mark ∷ []) (q ++ t) ∙ append_assoc x p (mark ∷ (q ++ t))
    ∙ ap (λ (l : List ℕ). x ++ l) (sym (append_assoc p (mark ∷ q) t))

bit_byte : (b : Bool) → bool_byte b ≡ bit b
bit_byte true = refl
bit_byte false = refl

pub returns-clause-stored : goal.returns-clause-stored
unfolding range_stored
returns-clause-stored c =
    let h = c.args.head in
    let p = c.args.start.now in
    let q = c.args.end.now in
    let flag = c.from.ensures ∙ bit_byte h.end_open in
    let ids = puts_part range_size c.put.ensures (omega arith) (omega arith) c.put_optional.ensures in
    let start = puts_part range_size ids (omega arith) (omega arith) c.put-2.ensures in
    let mark = puts_byte start c.from.result (omega arith) in
    let end = puts_part range_size mark (omega arith) (omega arith) c.put-3.ensures in
    let whole = puts_part range_size end (omega arith) (omega arith) c.put_times.ensures in
    let id : ◌≡◌ {A = Option (List ℕ)} (option_copied c.as_ref.result) h.subspaces.end = c.as_ref.ensures.value in
    let x = subspaces_flat h.subspaces in
    let t = times_flat h.times in
    puts_whole whole (omega arith)
    ∙ rw id (joined x p c.from.result q t)
    ∙ (λ i. x ++ ((sym (path_stored p (omega arith) c.fits-start) i ++ (flag i ∷ sym (path_stored q (omega arith) c.fits-end) i)) ++ t))

pub returns-clause-range : goal.returns-clause-range
returns-clause-range c empty = returns-clause-stored c ∙ stored_flat c.args.head _ _ empty
