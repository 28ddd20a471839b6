-- What the definitions answer at each step of reading an entry, as the code takes the rest of the message.
use Rattle.codec.proofs.Prelude.{◌≡◌, refl, sym, ◌∙◌, List, [], Bool, true, ℕ, ◌+◌, ◌-◌, ◌≤◌, arith, length, take, drop, length-drop, drop-drop}
use Rattle.std.specs.Prelude.{Ok, Err}
use Rattle.codec.specs.declared.DecodeError.{DecodeError}
use Rattle.codec.specs.Answers.{accepted, refused, decode_number, Gives}
use Rattle.codec.specs.Reader.{shift, mapped, Joins}
use Rattle.codec.proofs.Answers.{joins_refused, joins_accepted}
use Rattle.codec.proofs.Lending.{to_end}
use Rattle.path.specs.Record.{Path, path_from, sized}
use Rattle.path_relative.specs.Records.{read_within_by}
use Rattle.grouping.specs.Record.{Area, area_of, well_formed_area}
use Rattle.entry.specs.Record.{entry_with, entry_from}
use Rattle.entry_area_end.specs.declared.EntryAreaHeader.{EntryAreaHeader}
use Rattle.entry_area_end.specs.declared.End.{End}
use Rattle.entry_area_end.specs.Header.{header_length}
use Rattle.entry_area_end.specs.End.{read_after_path}
use Rattle.entry_area.specs.Entry.{read_id, read_parts}
use Rattle.entry_area.proofs.DecodeExits.{parts-id, id_inside, parts_rest, within_refused, within_inside, within_end, within_whole, within_read}

module _ (canonic : Bool) (n : List ℕ) (r : Area) (formed : well_formed_area r ≡ true) (h : EntryAreaHeader) (s : List ℕ) where
  pub entry_unread : (e : DecodeError) {p : Path} → p ≡ path_from [] → refused (decode_number e) ≡ read_id r.subspace h.id_written s
      → Joins (λ f q. entry_with f q) (path_from []) (Err e) p (shift header_length (mapped entry_from (read_parts canonic n (area_of r) h) s))
  entry_unread e blank f = joins_refused e blank (rw (parts-id canonic n r h s (decode_number e) (sym f)) refl)

  module _ {i : List ℕ} {a : ℕ} (id : accepted i a ≡ read_id r.subspace h.id_written s) where
    pub entry_unpathed : (e : DecodeError) {p : Path} → Gives (path_from []) (Err e) p (read_within_by sized canonic r.path (drop a s))
        → Joins (λ f q. entry_with f q) (path_from []) (Err e) p (shift header_length (mapped entry_from (read_parts canonic n (area_of r) h) s))
    entry_unpathed e g =
        let f = g.answer in
        joins_refused e (g.value ∙ rw (← f) refl)
        (rw (parts_rest canonic n r h s i a (sym id), within_refused canonic n i r.path formed r.times h (drop a s) (decode_number e) (sym f)) refl)

    module _ {p : Path} {b : ℕ} (g : Gives (path_from []) (Ok b) p (read_within_by sized canonic r.path (drop a s))) where
      pub entry_pathed : a + b ≤ length s
      entry_pathed = omega (arith, id_inside canonic n r h s i a (sym id), within_inside canonic n i r.path formed r.times h (drop a s) p b (sym g.answer), length-drop a s)

      pub entry_unended : (e : DecodeError) {q : Path} → q ≡ path_from [] → refused (decode_number e) ≡ read_after_path canonic r.times h (take (length s - (a + b)) (drop (a + b) s))
          → Joins (λ f q. entry_with f q) (path_from []) (Err e) q (shift header_length (mapped entry_from (read_parts canonic n (area_of r) h) s))
      entry_unended e blank f =
          let k = rw (to_end, ← drop-drop) at f in
          joins_refused e blank
          (rw (parts_rest canonic n r h s i a (sym id), within_end canonic n i r.path formed r.times h (drop a s) p b (sym g.answer) (decode_number e) (sym k)) refl)

      module _ {z : End} {c : ℕ} (end : accepted z c ≡ read_after_path canonic r.times h (take (length s - (a + b)) (drop (a + b) s))) where
        ended : read_after_path canonic r.times h (drop b (drop a s)) ≡ accepted z c
        ended = rw drop-drop (sym (rw to_end at end))

        pub entry_inside : a + (b + c) ≤ length s
        entry_inside = omega (arith, id_inside canonic n r h s i a (sym id), within_whole canonic n i r.path formed r.times h (drop a s) p b (sym g.answer) z c ended, length-drop a s)

        pub entry_read : Joins (λ f q. entry_with f q) (path_from [])
            (Ok (record {
              value = record { namespace_id = n; subspace_id = i; timestamp = z.timestamp; payload_length = z.payload_length; payload_digest = z.payload_digest };
              consumed = header_length + a + (b + c);
            })) p (shift header_length (mapped entry_from (read_parts canonic n (area_of r) h) s))
        entry_read =
            joins_accepted _
            (rw (parts_rest canonic n r h s i a (sym id), within_read canonic n i r.path formed r.times h (drop a s) p b (sym g.answer) z c ended) refl)
