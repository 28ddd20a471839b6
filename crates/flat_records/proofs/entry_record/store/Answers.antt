use Rattle.codec.proofs.Prelude.{◌≡◌, ◌∙◌, sym, ap, List, ℕ, ◌++◌, append_assoc, arith}
use Rattle.compact_u64.specs.BigEndian.{big_endian}
use Rattle.path.proofs.Puts.{puts_whole}
use Rattle.flat.specs.EntryRecord.{entry_size, entry_flat, ids_flat, end_flat}
use Rattle.flat.proofs.Parts.{puts_part}
use Rattle.flat.proofs.PathLaws.{path_stored}
use Rattle.flat_records.proofs.entry_record.store.Goals as goal

joined : (ids p t n d : List ℕ) → (((ids ++ p) ++ t) ++ n) ++ d ≡ ids ++ (p ++ (t ++ (n ++ d)))
joined ids p t n d = append_assoc ((ids ++ p) ++ t) n d ∙ append_assoc (ids ++ p) t (n ++ d) ∙ append_assoc ids p (t ++ (n ++ d))

pub returns : goal.returns
unfolding entry_flat
returns c =
    let f = c.args.fields in
    let p = c.args.path.now in
    let ids = puts_part entry_size c.put.ensures (omega arith) (omega arith) c.put-2.ensures in
    let path = puts_part entry_size ids (omega arith) (omega arith) c.put-3.ensures in
    let time = puts_part entry_size path (omega arith) (omega arith) c.put_number.ensures in
    let size = puts_part entry_size time (omega arith) (omega arith) c.put_number-2.ensures in
    let whole = puts_part entry_size size (omega arith) (omega arith) c.put-4.ensures in
    puts_whole whole (omega arith)
    ∙ joined (ids_flat f) p (big_endian 8 f.timestamp) (big_endian 8 f.payload_length) f.payload_digest
    ∙ ap (λ (l : List ℕ). ids_flat f ++ (l ++ end_flat f)) (sym (path_stored p (omega arith) c.fits-path))
