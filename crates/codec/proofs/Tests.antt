-- Tests joined by `&&`, taken apart.
use Rattle.codec.proofs.Prelude.{◌≡◌, refl, Bool, true, false, ◌&&◌}

pub and_left : (a b : Bool) → (a && b) ≡ true → a ≡ true
and_left true b e = refl
and_left false b e = e

pub and_right : (a b : Bool) → (a && b) ≡ true → b ≡ true
and_right true b e = e
and_right false b e = let z : false ≡ true = e in cc

pub and_not : (a b : Bool) → (a ≡ true → b ≡ false) → (a && b) ≡ false
and_not true b h = h refl
and_not false b h = refl
