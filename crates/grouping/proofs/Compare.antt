-- What comparing two areas says.
use Rattle.codec.proofs.Prelude.{◌≡◌, true, ◌&&◌}
use Rattle.codec.proofs.Tests.{and_left, and_right}
use Rattle.path.specs.Record.{Path, sized, well_formed}
use Rattle.path.proofs.Components.{well_sized}

-- the sizes of paths that were tested
pub both_sized : (p q : Path) → (well_formed p && well_formed q) ≡ true → (sized p && sized q) ≡ true
both_sized p q w = rw (well_sized p (and_left _ _ w)) (well_sized q (and_right (well_formed p) _ w))
