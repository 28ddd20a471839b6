-- What the definitions answer at each step of reading an entry, as the code takes the rest of the message.
use Rattle.codec.proofs.Prelude.{◌≡◌, refl, sym, ◌∙◌, List, [], true, false, ℕ, ◌+◌, ◌-◌, ◌≤◌, ◌<◌, length, take, drop, get_or}
use Rattle.std.specs.Prelude.{Ok, Err}
use Rattle.codec.specs.declared.DecodeError.{DecodeError}
use Rattle.codec.specs.Answers.{accepted, refused, decode_number, Gives}
use Rattle.codec.specs.Reader.{some_bytes, Joins}
use Rattle.codec.proofs.Answers.{joins_refused, joins_accepted}
use Rattle.codec.proofs.Lending.{to_end}
use Rattle.path.specs.Record.{Path, path_from, sized}
use Rattle.path.proofs.Components.{well_sized}
use Rattle.path_relative.specs.Records.{read_against_by, read_against_path}
use Rattle.entry.specs.Record.{Entry, entry_with, well_formed_entry}
use Rattle.entry_numbers.specs.declared.EntryHeader.{EntryHeader}
use Rattle.entry_numbers.specs.declared.Numbers.{Numbers}
use Rattle.entry_numbers.specs.Header.{header_length, unpack_header}
use Rattle.entry_numbers.specs.Numbers.{read_numbers}
use Rattle.entry_entry.specs.declared.Ids.{Ids}
use Rattle.entry_entry.specs.declared.Head.{Head}
use Rattle.entry_entry.specs.Entry.{read_ids, read_head}
use Rattle.entry_entry.specs.Records.{read_against_entry}
use Rattle.entry_entry.proofs.DecodeExits.{first_inside, second_inside, head_inside, entry_head, entry_path, path_inside, entry_digest, entry_read}

-- ---- what comes before the path
module _ (namespace subspace : List ℕ) (time : ℕ) (s : List ℕ) (i : ℕ) (l : i < length s) {h : EntryHeader} (header : h ≡ unpack_header (get_or s i 0))
    {ids : Ids} {a : ℕ} (first : accepted ids a ≡ read_ids namespace subspace h (take (length s - (i + header_length)) (drop (i + header_length) s))) where
  ids_are : read_ids namespace subspace (unpack_header (get_or s i 0)) (drop (i + header_length) s) ≡ accepted ids a
  ids_are = sym (rw (header, to_end) at first)

  pub ids_inside : i + header_length + a ≤ length s
  ids_inside = first_inside namespace subspace time s i l ids a ids_are

  pub numbers_inside : {n : Numbers} {b : ℕ} → accepted n b ≡ read_numbers time h (take (length s - (i + header_length + a)) (drop (i + header_length + a) s)) → i + (header_length + (a + b)) ≤ length s
  numbers_inside f = second_inside namespace subspace time s i l ids a ids_are _ _ (sym (rw (header, to_end) at f))

-- ---- an entry
module _ (r : Entry) (formed : well_formed_entry r ≡ true) (s : List ℕ) (i : ℕ) where
  pub entry_headless : (e : DecodeError) {p : Path} → p ≡ path_from [] → refused (decode_number e) ≡ read_head r.namespace_id r.subspace_id r.timestamp (drop i s)
      → Joins (λ f q. entry_with f q) (path_from []) (Err e) p (read_against_entry r (drop i s))
  entry_headless e blank f = joins_refused e blank (sym (entry_head r s i formed (decode_number e) (sym f)))

  module _ {h : Head} {a : ℕ} (head : accepted h a ≡ read_head r.namespace_id r.subspace_id r.timestamp (drop i s)) where
    pub head_within : i + a ≤ length s
    head_within = head_inside r.namespace_id r.subspace_id r.timestamp s i h a (sym head)

    against : read_against_path false r.path (drop (i + a) s) ≡ read_against_by sized false r.path (drop (i + a) s)
    unfolding read_against_path
    against = rw (formed, well_sized r.path formed)

    pub entry_unpathed : (e : DecodeError) {p : Path} → Gives (path_from []) (Err e) p (read_against_by sized false r.path (drop (i + a) s))
        → Joins (λ f q. entry_with f q) (path_from []) (Err e) p (read_against_entry r (drop i s))
    entry_unpathed e g =
        let f = g.answer in
        joins_refused e (g.value ∙ rw (← f) refl) (sym (entry_path r s i h a (sym head) (decode_number e) (against ∙ sym f)))

    module _ {p : Path} {b : ℕ} (g : Gives (path_from []) (Ok b) p (read_against_by sized false r.path (drop (i + a) s))) where
      pub path_within : i + a + b ≤ length s
      path_within = path_inside r s i h a (sym head) p b (against ∙ sym g.answer)

      pub entry_undigested : (e : DecodeError) {q : Path} → q ≡ path_from [] → refused (decode_number e) ≡ some_bytes 32 (drop (i + a + b) s)
          → Joins (λ f q. entry_with f q) (path_from []) (Err e) q (read_against_entry r (drop i s))
      entry_undigested e blank f = joins_refused e blank (sym (entry_digest r s i h a (sym head) p b (against ∙ sym g.answer) (decode_number e) (sym f)))

      module _ {d : List ℕ} {c : ℕ} (digest : accepted d c ≡ some_bytes 32 (drop (i + a + b) s)) where
        pub entry_whole : Joins (λ f q. entry_with f q) (path_from [])
            (Ok (record {
              value = record { namespace_id = h.ids.namespace_id; subspace_id = h.ids.subspace_id; timestamp = h.numbers.timestamp; payload_length = h.numbers.payload_length; payload_digest = d };
              consumed = a + (b + c);
            })) p (read_against_entry r (drop i s))
        entry_whole = joins_accepted _ (sym (entry_read r s i h a (sym head) p b (against ∙ sym g.answer) d c (sym digest)))
