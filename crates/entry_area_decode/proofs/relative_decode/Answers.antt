use Rattle.codec.proofs.Prelude.{◌≡◌, sym, ◌+◌, arith, get_or, length-drop}
use Rattle.codec.specs.declared.DecodeError.TheVariants as decoding
use Rattle.codec.proofs.Answers.{joins_refused}
use Rattle.codec.proofs.Lending.{to_end}
use Rattle.path.proofs.Growing.{in_empty}
use Rattle.grouping.specs.Record.{area_lent}
use Rattle.entry_area_end.specs.Header.{header_length, unpack_header}
use Rattle.entry_area.proofs.DecodeExits.{area_malformed, entry_none, entry_spare, entry_parts_lem}
use Rattle.entry_area_decode.proofs.relative_decode.Goals as goal

pub returns-then-not-is_well_formed : goal.returns-then-not-is_well_formed
returns-then-not-is_well_formed c =
    joins_refused decoding.Malformed (rw c.clear.ensures in_empty)
    (sym (area_malformed c.args.canonic c.args.namespace (area_lent c.args.reference) _ (sym c.if-not-is_well_formed.ensures)))

pub returns-then-message-start : goal.returns-then-message-start
returns-then-message-start c =
    joins_refused decoding.EndOfInput (rw c.clear.ensures in_empty)
    (sym (entry_none c.args.canonic c.args.namespace (area_lent c.args.reference) (sym c.if-not-is_well_formed.ensures) c.args.message.now c.args.start c.if-message-start.true))

pub returns-then-header-ne0 : goal.returns-then-header-ne0
returns-then-header-ne0 c =
    joins_refused decoding.TheirFault (rw c.clear.ensures in_empty)
    (sym (entry_spare c.args.canonic c.args.namespace (area_lent c.args.reference) (sym c.if-not-is_well_formed.ensures) c.args.message.now c.args.start
    (omega (arith, c.if-message-start.false)) (rw c.unpack-header.ensures at c.if-header-ne0.true)))

pub decode_parts-requires : goal.decode_parts-requires
decode_parts-requires c =
    let a = c.args in
    (rw (to_end (a.start + header_length) a.message.now) (omega (arith, length-drop (a.start + header_length) a.message.now, c.if-message-start.false)), sym c.if-not-is_well_formed.ensures, rw c.clear.ensures in_empty)

pub returns : goal.returns
returns c =
    let a = c.args in
    let unspared : (unpack_header (get_or a.message.now a.start 0)).spare ≡ 0 = rw c.unpack-header.ensures at c.if-header-ne0.false in
    rw (entry_parts_lem a.canonic a.namespace (area_lent a.reference) (sym c.if-not-is_well_formed.ensures) a.message.now a.start (omega (arith, c.if-message-start.false)) unspared)
    (rw (c.unpack-header.ensures, to_end (a.start + header_length) a.message.now) at c.decode_parts.ensures)
