-- The laws of an entry's id.
use Rattle.codec.proofs.Prelude.{refl, sym, List, Bool, not, ℕ, not-true}
use Rattle.std.specs.Prelude.{Option, Some, None}
use Rattle.codec.specs.Reader.{give, some_bytes}
use Rattle.codec.specs.Reads.{Reads, Bounded}
use Rattle.codec.proofs.Relations.{Given, SomeBytes}
use Rattle.codec.proofs.SameBytes.{same_eq, same_refl}
use Rattle.codec.proofs.Readers.{reads_as, guard_reads, some_bytes_reads, give_reads}
use Rattle.codec.proofs.Bounded.{guard_bounded, some_bytes_bounded, give_bounded}
use Rattle.grouping.specs.Area.{TypedSubspace}
use Rattle.entry_area.specs.Entry.{read_id}
use Rattle.entry_area.proofs.Relations.{IdAs}

-- ---- the id
pub id_reads : (r : Option (List ℕ)) → TypedSubspace r → (written : Bool) → Reads (read_id r written) (IdAs r written)
id_reads None ty written = reads_as _ _ _ (guard_reads written (some_bytes 32) (SomeBytes 32) (λ ok. some_bytes_reads 32))
    (λ id e j. record { typed = (j.1.0, j.1.1); inside = refl; any = sym j.0; bytes = j.1.2 })
    (λ id e a. (sym a.any, (a.typed.0, a.typed.1, a.bytes)))
id_reads (Some r) ty written = reads_as _ _ _ (guard_reads (not written) (give r) (Given r) (λ ok. give_reads r))
    (λ id e j. rw (← j.1.0, j.1.1) (record { typed = ty; inside = same_refl r; any = sym (not-true written j.0); bytes = refl }))
    (λ id e a. (rw (← a.any), (same_eq r id a.inside, a.bytes)))

pub id_bounded : (r : Option (List ℕ)) (written : Bool) → Bounded (read_id r written)
id_bounded None written = guard_bounded written _ (some_bytes_bounded 32)
id_bounded (Some r) written = guard_bounded (not written) _ (give_bounded r)
