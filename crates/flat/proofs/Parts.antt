-- Laws of the parts of a record, as they are written.
use Rattle.codec.proofs.Prelude.{◌≡◌, List, ℕ, ◌+◌, ◌-◌, ◌≤◌, ◌++◌, arith, put_mid, length, take, drop}
use Rattle.path.specs.Puts.{Puts}
use Rattle.path.proofs.Puts.{puts_tail, puts_long}

-- a part after others, lent what is left of a record
pub puts_part : {na nb : ℕ} {a b l l₁ m : List ℕ} (size : ℕ) → Puts na a l l₁ → length l ≡ size → na ≤ size → Puts nb b (take (size - na) (drop na l₁)) m
    → Puts (na + nb) (a ++ b) l (put_mid na (size - na) l₁ m)
puts_part {na} {nb} {a} {b} {l} {l₁} {m} size p whole inside q =
    let left : length l₁ - na ≡ size - na = omega (arith, puts_long p (omega arith)) in
    rw left at (puts_tail p {nb = nb} {b = b} {m = m} (rw left q))
