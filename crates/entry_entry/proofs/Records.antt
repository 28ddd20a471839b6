-- Entries against a well-formed entry read back.
use Rattle.codec.proofs.Prelude.{◌≡◌, List, true, ◌&&◌, ℕ}
use Rattle.codec.specs.Format.{Writes}
use Rattle.codec.specs.Reads.{ReadsAs, ReadsBack}
use Rattle.codec.proofs.Tests.{and_right}
use Rattle.codec.proofs.Lawful.{verdict_allowed}
use Rattle.codec.proofs.ReadsAs.{all_of, mapped_as}
use Rattle.entry.specs.Record.{Entry, entry_of, entry_from, well_formed_entry, TypedEntry}
use Rattle.entry.proofs.Record.{apart_entry}
use Rattle.entry_entry.specs.Records.{against_entry, read_against_entry}
use Rattle.entry_entry.proofs.Entry.{entry_as}

-- what is written against a well-formed reference
module _ (r : Entry) (t : TypedEntry r) (w : well_formed_entry r ≡ true) where
  written_as : (v : Entry) (e : List ℕ) → Writes TypedEntry (against_entry r) v e → ReadsAs (read_against_entry r) v e
  unfolding read_against_entry
  written_as v e x =
      let formed = and_right (well_formed_entry r) (well_formed_entry v) (verdict_allowed (well_formed_entry r && well_formed_entry v) true x.valid.allows).0 in
      let a = apart_entry r t w in
      let b = apart_entry v x.valid.typed formed in
      let there = mapped_as (entry_as (entry_of r) (entry_of v) b.typed b.ok t.time a.ok) entry_from in
      rw (w, x.bytes) (rw b.made at there)

  pub entry_back : ReadsBack (read_against_entry r) (Writes TypedEntry (against_entry r))
  entry_back = all_of written_as
