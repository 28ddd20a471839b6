-- Subspaces, as they are written: the start's bytes, then the end's.
use Rattle.codec.proofs.Prelude.{◌≡◌, List, ◌++◌, ℕ}
use Rattle.range_3d.specs.declared.Range.{Range}
use Rattle.range_subspaces.specs.Subspaces.{id_bytes, end_bytes, subspaces_bytes}

pub bytes_of : (r v : Range (List ℕ)) {x y : List ℕ} → x ≡ id_bytes r v.start → y ≡ end_bytes r v.end → subspaces_bytes r v ≡ x ++ y
unfolding subspaces_bytes
bytes_of r v e f = rw (e, f)
