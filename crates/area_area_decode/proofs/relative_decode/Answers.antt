use Rattle.codec.proofs.Prelude.{◌≡◌, sym, ◌∙◌, true, false, true≢false, ◌+◌, arith, get_or, length-drop}
use Rattle.codec.specs.declared.DecodeError.TheVariants as decoding
use Rattle.codec.proofs.Answers.{joins_refused}
use Rattle.codec.proofs.Lending.{to_end}
use Rattle.path.proofs.Growing.{in_empty}
use Rattle.grouping.specs.Record.{area_lent}
use Rattle.area_times.specs.Header.{header_length, unpack_header, spare_bits}
use Rattle.area_area.proofs.DecodeExits.{area_malformed, tested_none, tested_spare, tested_parts}
use Rattle.area_area_decode.proofs.relative_decode.Goals.{else-canonic-via-then-canonic+else-spare_bits, else-canonic-via-else-canonic}
use Rattle.area_area_decode.proofs.relative_decode.Goals as goal

pub returns-then-not-is_well_formed : goal.returns-then-not-is_well_formed
returns-then-not-is_well_formed c =
    joins_refused decoding.Malformed (rw c.clear.ensures in_empty) (sym (area_malformed c.args.canonic (area_lent c.args.reference) _ (sym c.if-not-is_well_formed.ensures)))

pub returns-then-message-start : goal.returns-then-message-start
returns-then-message-start c =
    joins_refused decoding.EndOfInput (rw c.clear.ensures in_empty) (sym (tested_none c.args.canonic (area_lent c.args.reference) (sym c.if-not-is_well_formed.ensures) c.args.message.now c.args.start c.if-message-start.true))

pub returns-then-spare_bits : goal.returns-then-spare_bits
returns-then-spare_bits c =
    joins_refused decoding.TheirFault (rw c.clear.ensures in_empty)
    (sym (tested_spare c.args.canonic (area_lent c.args.reference) (sym c.if-not-is_well_formed.ensures) c.args.message.now c.args.start (omega (arith, c.if-message-start.false)) c.if-canonic.true
    (rw (← c.unpack-header.ensures) (sym c.if-spare_bits.ensures))))

pub decode_parts-requires : goal.decode_parts-requires
decode_parts-requires c =
    let a = c.args in
    (sym c.if-not-is_well_formed.ensures, rw c.clear.ensures in_empty, rw (to_end (a.start + header_length) a.message.now) (omega (arith, length-drop (a.start + header_length) a.message.now, c.if-message-start.false)))

pub returns : goal.returns
returns c =
    let a = c.args in
    let unspared : a.canonic ≡ true → spare_bits (unpack_header (get_or a.message.now a.start 0)) ≡ false = λ k. elim c.else-canonic.branch [
      | else-canonic-via-then-canonic+else-spare_bits w ↦ rw (← c.unpack-header.ensures) (sym w.if-spare_bits.ensures)
      | else-canonic-via-else-canonic w ↦ absurd (true≢false (sym k ∙ w.if-canonic.false))
    ] in
    rw (tested_parts a.canonic (area_lent a.reference) (sym c.if-not-is_well_formed.ensures) a.message.now a.start (omega (arith, c.if-message-start.false)) unspared)
    (rw (c.unpack-header.ensures, to_end (a.start + header_length) a.message.now) at c.decode_parts.ensures)
