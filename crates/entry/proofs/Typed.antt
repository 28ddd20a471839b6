-- What the language says of a record, from what owning one tells.
use Rattle.codec.proofs.Prelude.{◌≡◌, List, length, Val, Is}
use denote.Struct.Declared as struct
use Rattle.entry.specs.declared.EntryFields.{EntryFields}

-- the digest of an entry's fields
pub digest_long : (f : EntryFields) {vs : List Val} → Is (struct.row Rattle.entry.specs.contracts.EntryFields.the_type) f vs → length f.payload_digest ≡ 32
digest_long f g = g.1.1.1.1.1.1.0.1.0.1
