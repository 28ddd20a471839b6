-- A path that has the components that are shared may be written, and the other way round.
use Rattle.codec.proofs.Prelude.{◌≡◌, true, ◌&&◌, ℕ, leb}
use Rattle.codec.specs.Format.{allowed}
use Rattle.codec.proofs.Lawful.{verdict_allowed}
use Rattle.codec.proofs.Tests.{and_left, and_right}
use Rattle.path.specs.Record.{Path, sized}
use Rattle.path.specs.Flat.{path_in}
use Rattle.path_relative.specs.Records.{shared_by}
use Rattle.path_relative_encode.specs.declared.shared_path.SharedPath.{SharedPath}

pub shared_allowed : (s : SharedPath) → (shared_by sized s.shared).check (path_in s.path.now) ≡ allowed
shared_allowed s =
    let p = path_in s.path.now in
    rw (and_left (sized p) (leb s.shared p.count) s.fits, and_right (sized p) (leb s.shared p.count) s.fits)

pub shared_fits : (p : Path) (k : ℕ) → (shared_by sized k).check p ≡ allowed → (sized p && leb k p.count) ≡ true
shared_fits p k ok = let v = verdict_allowed (sized p) (leb k p.count) ok in rw (v.0, v.1)
