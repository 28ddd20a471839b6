use Rattle.codec.proofs.Prelude.{◌≡◌, ap, length, ◌∙◌, ℕ}
use Rattle.std.proofs.Common.{Err, rules}
use Rattle.codec.specs.declared.EncodeError.TheVariants as encoding
use Rattle.codec.proofs.Lending.{length_allowed}
use Rattle.compact_u64.specs.Number.{number_bytes}
use Rattle.jakepuro.specs.Tagged.{tagged}
use Rattle.jakepuro.proofs.Marks.{malformed_length}
use Rattle.jakepuro.proofs.Tagged.{no_bits, tagged_refused_value, tagged_allowed}
use Rattle.jakepuro.proofs.numbers.len_of_encoding.Goals as goal

pub returns-in_err-width : goal.returns-in_err-width
returns-in_err-width c =
    let a = c.args in
    let e : c.from_residual.result ≡ Err encoding.Malformed = search rules in
    rw e (malformed_length (tagged a.width) a.value (tagged_refused_value a.width a.value (no_bits a.width _ c.in_err-width.ensures)))

pub returns : goal.returns
returns c =
    let a = c.args in
    length_allowed (tagged a.width) a.value _ (tagged_allowed a.width a.value c.in_ok-width.width c.in_ok-width.ensures)
    (c.relative_len_of_encoding.ensures.0 ∙ ap (λ (b : ℕ). length (number_bytes b a.value)) c.in_ok-width.ensures)
