use Rattle.codec.proofs.Prelude.{◌≡◌, refl, ◌∙◌, ap, ℕ}
use Rattle.std.proofs.Common.{Err, Ok, rules}
use Rattle.codec.specs.declared.EncodeError.TheVariants as encoding
use Rattle.compact_u64.specs.Number.{min_tag}
use Rattle.jakepuro.specs.Tagged.{tagged}
use Rattle.jakepuro.proofs.Marks.{malformed_written}
use Rattle.jakepuro.proofs.Tagged.{no_bits, tagged_refused_value, tagged_writes}
use Rattle.jakepuro.proofs.numbers.encode.Goals as goal

pub returns-in_err-width-clause-written : goal.returns-in_err-width-clause-written
returns-in_err-width-clause-written c =
    let a = c.args in
    let e : c.from_residual.result ≡ Err encoding.Malformed = search rules in
    rw e (malformed_written (tagged a.width) a.value (tagged_refused_value a.width a.value (no_bits a.width _ c.in_err-width.ensures)) a.buffer.now)

pub returns-in_err-width-clause-tag : goal.returns-in_err-width-clause-tag
returns-in_err-width-clause-tag c =
    let a = c.args in
    let w = malformed_written (tagged a.width) a.value (tagged_refused_value a.width a.value (no_bits a.width _ c.in_err-width.ensures)) a.buffer.now in
    rw (← w.answer) refl

pub returns-in_err-written-clause-written : goal.returns-in_err-written-clause-written
returns-in_err-written-clause-written c =
    let a = c.args in
    let e : c.from_residual-in_err-written.result ≡ Err c.in_err-written.field-0.0 = search rules in
    rw e (tagged_writes a.width a.value c.in_ok-width.width c.in_ok-width.ensures _ _ _ c.in_err-written.ensures)

pub returns-in_err-written-clause-tag : goal.returns-in_err-written-clause-tag
returns-in_err-written-clause-tag c =
    let a = c.args in
    let w = tagged_writes a.width a.value c.in_ok-width.width c.in_ok-width.ensures (Err c.in_err-written.field-0.0) _ _ c.in_err-written.ensures in
    rw (← w.answer) refl

pub returns-clause-written : goal.returns-clause-written
returns-clause-written c =
    let a = c.args in
    tagged_writes a.width a.value c.in_ok-width.width c.in_ok-width.ensures _ _ _ c.in_ok-written.ensures

pub returns-clause-tag : goal.returns-clause-tag
returns-clause-tag c =
    let a = c.args in
    let w = tagged_writes a.width a.value c.in_ok-width.width c.in_ok-width.ensures (Ok c.in_ok-written.written) _ _ c.in_ok-written.ensures in
    rw (← w.answer) (c.min_tag.ensures ∙ ap (λ (b : ℕ). min_tag b a.value) c.in_ok-width.ensures)
