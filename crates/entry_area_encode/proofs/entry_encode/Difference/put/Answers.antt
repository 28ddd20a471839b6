use Rattle.codec.proofs.Prelude.{refl, List, ℕ}
use Rattle.codec.proofs.Lending.{pair_over}
use Rattle.path_relative_encode.specs.Shared.{shared_bytes}
use Rattle.entry_area.specs.Entry.{start_of}
use Rattle.entry_area.specs.inside.Writing.{end_in, tail_bytes}
use Rattle.entry_area_encode.proofs.entry_encode.Difference.put.Goals as goal

pub returns : goal.returns
returns c =
    let s = c.args.self in
    let first : List ℕ = start_of s.reference.times s.reference.subspace s.fields.subspace_id (end_in s.fields) in
    let last : List ℕ = tail_bytes s.reference.times s.fields (shared_bytes s.path) in
    let n = c.put_start-n in
    pair_over first last c.args.buffer.now refl c.requires n.ensures.0 n.ensures.1 n.auto.buffer c.put_rest.ensures
