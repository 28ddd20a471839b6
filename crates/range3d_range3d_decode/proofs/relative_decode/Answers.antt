use Rattle.codec.proofs.Prelude.{sym, ap, ◌∙◌, ◌+◌, ◌≤◌, arith, length, leb-true, leb-false}
use Rattle.codec.specs.declared.DecodeError.TheVariants as decoding
use Rattle.codec.proofs.Lending.{to_end}
use Rattle.path.specs.Flat.{path_in}
use Rattle.path.proofs.Growing.{in_empty}
use Rattle.range_3d.specs.Record.{range_lent}
use Rattle.range_3d.proofs.Record.{well_sized_range}
use Rattle.range_header.specs.Header.{header_length}
use Rattle.range3d_range3d.proofs.DecodeExits.{range_unformed, header_cut, header_read, range_refused}
use Rattle.range3d_range3d_decode.proofs.relative_decode.Goals as goal

pub returns-then-not-is_well_formed : goal.returns-then-not-is_well_formed
returns-then-not-is_well_formed c =
    range_refused decoding.Malformed (ap path_in c.clear.ensures ∙ in_empty) (ap path_in c.clear-2.ensures ∙ in_empty)
    (sym (range_unformed (range_lent c.args.reference) _ (sym c.is_well_formed.ensures ∙ c.if-not-is_well_formed.true)))

pub returns-then-not-has_header : goal.returns-then-not-has_header
returns-then-not-has_header c =
    let cut = leb-false _ _ (sym c.has_header.ensures ∙ c.if-not-has_header.true) in
    range_refused decoding.EndOfInput (ap path_in c.clear.ensures ∙ in_empty) (ap path_in c.clear-2.ensures ∙ in_empty)
    (sym (header_cut (range_lent c.args.reference) (sym c.is_well_formed.ensures ∙ c.if-not-is_well_formed.false) c.args.message.now c.args.from (omega (arith, cut))))

pub decode_parts-requires : goal.decode_parts-requires
decode_parts-requires c = (
  omega (arith, leb-true _ _ (sym c.has_header.ensures ∙ c.if-not-has_header.false)),
  well_sized_range (range_lent c.args.reference) (sym c.is_well_formed.ensures ∙ c.if-not-is_well_formed.false),
  ap path_in c.clear.ensures ∙ in_empty,
  ap path_in c.clear-2.ensures ∙ in_empty,
)

pub returns : goal.returns
returns c =
    let whole : c.args.from + header_length ≤ length c.args.message.now = leb-true _ _ (sym c.has_header.ensures ∙ c.if-not-has_header.false) in
    rw (header_read (range_lent c.args.reference) (sym c.is_well_formed.ensures ∙ c.if-not-is_well_formed.false) c.args.message.now c.args.from whole)
    (rw (c.unpack-header.ensures, to_end (c.args.from + header_length) c.args.message.now) at c.decode_parts.ensures)
