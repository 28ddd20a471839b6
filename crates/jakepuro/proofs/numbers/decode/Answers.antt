use Rattle.codec.proofs.Prelude.{◌≡◌, ◌∙◌, ℕ, drop}
use Rattle.std.proofs.Common.{Err, rules}
use Rattle.codec.specs.declared.DecodeError.TheVariants as decoding
use Rattle.jakepuro.proofs.Marks.{malformed_left}
use Rattle.jakepuro.proofs.Tagged.{no_bits, tagged_refused, tagged_reads}
use Rattle.jakepuro.proofs.numbers.decode.Goals as goal

pub returns-in_err-width : goal.returns-in_err-width
returns-in_err-width c =
    let a = c.args in
    let e : c.from_residual.result ≡ Err decoding.Malformed = search rules in
    rw e (malformed_left (λ (v : ℕ). v) a.value.now (tagged_refused a.canonic a.width a.tag (drop a.start a.message.now) (no_bits a.width _ c.in_err-width.ensures)))

pub returns : goal.returns
returns c =
    let a = c.args in
    let read = c.relative_decode.ensures ∙ tagged_reads a.canonic a.width a.tag (drop a.start a.message.now) c.in_ok-width.width c.in_ok-width.ensures in
    rw read at c.store.ensures
