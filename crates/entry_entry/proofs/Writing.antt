-- What the writers' definitions say at each step of the code.
use Rattle.codec.proofs.Prelude.{◌≡◌, sym, ap, ◌∙◌, ◌&&◌, ℕ}
use Rattle.codec.specs.Answers.{said}
use Rattle.codec.specs.Format.{allowed}
use Rattle.path.specs.Record.{components_of, well_formed, sized}
use Rattle.path.specs.Prefix.{shared}
use Rattle.path.specs.Answers.{said_if}
use Rattle.path_relative.specs.Records.{shared_by}
use Rattle.path_relative.proofs.Lent.{rest_allowed, shared_against}
use Rattle.entry.specs.Record.{Entry, fields_of}
use Rattle.entry_entry.specs.Entry.{entry_bytes}
use Rattle.entry_entry.specs.Records.{against_entry}
use Rattle.entry_entry.specs.inside.Writing.{known_bytes}

-- an entry that has k components in common with its reference
module _ (r e : Entry) (k : ℕ) (common : said k ≡ said_if (well_formed r.path && well_formed e.path) (shared (components_of r.path) (components_of e.path))) where
  pub path_allowed : (shared_by sized k).check e.path ≡ allowed
  path_allowed = rest_allowed r.path e.path k common

  pub entry_allowed : (against_entry r).check e ≡ allowed
  entry_allowed = sym (shared_against r.path e.path k common).0 ∙ path_allowed

  pub entry_bytes_lem : known_bytes (fields_of r) (fields_of e) ((shared_by sized k).encode e.path) ≡ (against_entry r).encode e
  unfolding entry_bytes
  entry_bytes_lem = ap (known_bytes (fields_of r) (fields_of e)) (shared_against r.path e.path k common).1
