-- What an answer says of its tests.
use Rattle.codec.proofs.Prelude.{◌≡◌, refl, Bool, true, false, ℕ, arith}
use Rattle.codec.specs.Answers.{said, unsaid}
use Rattle.path.specs.Answers.{said_if}

pub said_known : {A : Type 0} (formed : Bool) (v w : A) → said w ≡ said_if formed v → (formed ≡ true) × (v ≡ w)
said_known true v w e = (refl, cc)
said_known false v w e = let z : ◌≡◌ {A = ℕ} 0 1 = cc in absurd (omega arith)

pub unsaid_known : {A : Type 0} (formed : Bool) (v : A) (k : ℕ) → unsaid k ≡ said_if formed v → (formed ≡ false) × (k ≡ 5)
unsaid_known true v k e = let z : ◌≡◌ {A = ℕ} 0 1 = cc in absurd (omega arith)
unsaid_known false v k e = (refl, cc)
