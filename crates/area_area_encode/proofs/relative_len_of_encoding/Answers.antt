use Rattle.codec.proofs.Prelude.{◌≡◌, sym, ◌∙◌, arith}
use Rattle.std.proofs.Common.{Err, rules}
use Rattle.codec.specs.Answers.{encode_number}
use Rattle.codec.proofs.Lending.{length_refused_value, length_allowed, length_wrote, length_refused_writing}
use Rattle.path.specs.Record.{sized}
use Rattle.path_relative.specs.Records.{extends_by}
use Rattle.path_relative.proofs.Lent.{extends_short}
use Rattle.grouping.specs.Record.{Area, area_lent}
use Rattle.area_area.specs.Records.{against_area}
use Rattle.area_area.specs.inside.Writing.{IsInHead}
use Rattle.area_area.proofs.Writing.{as_path, area_long}
use Rattle.area_area_encode.proofs.relative_len_of_encoding.Goals as goal

pub returns-in_err-check : goal.returns-in_err-check
returns-in_err-check c =
    let e : c.from_residual.result ≡ Err c.in_err-check.field-0.0 = search rules in
    rw e (length_refused_value (against_area (area_lent c.args.reference)) (area_lent c.args.area) _ c.in_err-check.ensures.err)

pub returns-in_err-path : goal.returns-in_err-path
returns-in_err-path c =
    let area : Area = area_lent c.args.area in
    let reference : Area = area_lent c.args.reference in
    let e : c.from_residual-in_err-path.result ≡ Err c.in_err-path.field-0.0 = search rules in
    let why = encode_number c.in_err-path.field-0.0 in
    let h : IsInHead reference area = c.in_ok-check.ensures.ok in
    rw e (length_refused_value (against_area reference) area why
    (as_path reference area h.formed h.inside ∙ length_refused_writing (extends_by sized reference.path) area.path why (sym c.in_err-path.ensures)))

pub overflow_add-result : goal.overflow_add-result
overflow_add-result c =
    let area : Area = area_lent c.args.area in
    let reference : Area = area_lent c.args.reference in
    let l = length_wrote (extends_by sized reference.path) area.path _ (sym c.in_ok-path.ensures) in
    omega (arith, l.1, extends_short reference.path area.path l.0, c.head_len.ensures.1)

pub returns : goal.returns
returns c =
    let area : Area = area_lent c.args.area in
    let reference : Area = area_lent c.args.reference in
    let l = length_wrote (extends_by sized reference.path) area.path _ (sym c.in_ok-path.ensures) in
    let h : IsInHead reference area = c.in_ok-check.ensures.ok in
    length_allowed (against_area reference) area _ (as_path reference area h.formed h.inside ∙ l.0) (area_long reference area h.formed h.inside _ c.head_len.ensures.0 _ l.1)
