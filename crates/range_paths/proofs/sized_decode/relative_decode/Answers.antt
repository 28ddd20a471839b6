use Rattle.codec.proofs.Prelude.{◌≡◌, sym, ap, ◌∙◌, arith}
use Rattle.std.proofs.Common.{Err, rules}
use Rattle.codec.specs.Answers.{decode_number}
use Rattle.codec.specs.declared.DecodeError.TheVariants as decoding
use Rattle.path.specs.Flat.{path_in}
use Rattle.path.proofs.Growing.{in_empty}
use Rattle.range_3d.specs.Record.{paths_lent}
use Rattle.range_paths.proofs.DecodeExits.{nothing_read, reads_refused, paths_unsized, no_start, start_read, no_end_lem, end_within, both_read}
use Rattle.range_paths.proofs.sized_decode.relative_decode.Goals as goal

pub returns-then-not-are_sized : goal.returns-then-not-are_sized
returns-then-not-are_sized c =
    let a = c.args in
    reads_refused decoding.Malformed (ap path_in c.clear-then-not-are_sized.ensures ∙ in_empty) (ap path_in c.clear.ensures ∙ in_empty)
    (paths_unsized a.end_open a.sides (paths_lent a.reference) a.message.now (sym c.are_sized.ensures ∙ c.if-not-are_sized.true))

pub returns-in_err-first : goal.returns-in_err-first
returns-in_err-first c =
    let a = c.args in
    let why = c.in_err-first.field-0.0 in
    let e : c.from_residual.result ≡ Err why = search rules in
    rw e (reads_refused why (nothing_read why c.in_err-first.ensures) (ap path_in c.clear.ensures ∙ in_empty)
    (no_start a.end_open a.sides (paths_lent a.reference) a.message.now (sym c.are_sized.ensures ∙ c.if-not-are_sized.false) (decode_number why) c.in_err-first.ensures.answer))

pub returns-then-end_open : goal.returns-then-end_open
returns-then-end_open c =
    let a = c.args in
    start_read a.end_open a.sides (paths_lent a.reference) a.message.now (sym c.are_sized.ensures ∙ c.if-not-are_sized.false) c.in_ok-first.ensures.answer
    c.if-end_open.true (ap path_in c.clear.ensures ∙ in_empty)

pub overflow_add-result : goal.overflow_add-result
overflow_add-result c =
    let a = c.args in
    omega (arith, end_within a.end_open a.sides (paths_lent a.reference) a.message.now (sym c.are_sized.ensures ∙ c.if-not-are_sized.false) c.in_ok-first.ensures.answer c.if-end_open.false c.in-Ok.ensures.answer)

pub returns-in-Ok : goal.returns-in-Ok
returns-in-Ok c =
    let a = c.args in
    both_read a.end_open a.sides (paths_lent a.reference) a.message.now (sym c.are_sized.ensures ∙ c.if-not-are_sized.false) c.in_ok-first.ensures.answer c.if-end_open.false c.in-Ok.ensures.answer

pub returns-in-Err : goal.returns-in-Err
returns-in-Err c =
    let a = c.args in
    let why = c.in-Err.refusal in
    reads_refused why (ap path_in c.clear-in-Err.ensures ∙ in_empty) (nothing_read why c.in-Err.ensures)
    (no_end_lem a.end_open a.sides (paths_lent a.reference) a.message.now (sym c.are_sized.ensures ∙ c.if-not-are_sized.false) c.in_ok-first.ensures.answer
    c.if-end_open.false (decode_number why) c.in-Err.ensures.answer)
