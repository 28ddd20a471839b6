use Rattle.codec.proofs.Prelude.{◌≡◌}
use Rattle.std.proofs.Common.{Err, rules}
use Rattle.codec.proofs.Lending.{length_refused_value, told_refused, told_full, told_fits}
use Rattle.path.specs.Record.{sized}
use Rattle.path.specs.Flat.{path_in}
use Rattle.path_suffix.specs.Suffix.{suffix_by}
use Rattle.path_suffix_encode.proofs.Records.{suffix_told}
use Rattle.path_suffix_encode.proofs.sized.encode_suffix.Goals as goal

pub returns-in_err-suffix : goal.returns-in_err-suffix
returns-in_err-suffix c =
    let f = suffix_by sized c.args.k in
    let p = path_in c.args.path.now in
    let e : c.from_residual.result ≡ Err c.in_err-suffix.field-0.0 = search rules in
    rw e (told_refused f p c.args.buffer.now _ (length_refused_value f p _ c.in_err-suffix.ensures.err))

pub returns-then-buffer-len : goal.returns-then-buffer-len
returns-then-buffer-len c =
    let same = c.in_ok-suffix.ensures.ok in
    told_full _ _ c.args.buffer.now c.len-len.result (rw (same.0, same.1) at (suffix_told c.in_ok-suffix.suffix.leads c.len-len.ensures.0)) c.if-buffer-len.true

pub returns : goal.returns
returns c =
    let same = c.in_ok-suffix.ensures.ok in
    told_fits _ _ c.args.buffer.now c.len-len.result (rw (same.0, same.1) at (suffix_told c.in_ok-suffix.suffix.leads c.len-len.ensures.0)) c.if-buffer-len.false (rw (same.0, same.1) at c.put.ensures)
