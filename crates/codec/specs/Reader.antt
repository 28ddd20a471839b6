-- docs/FORMAT.md, "Refusals": readers of lists of bytes, and the few ways to make one of smaller ones. A record's definition is a chain of these in the format's order
-- of fields and checks.
use Rattle.std.specs.Prelude.{◌≡◌, Result, List, [], ◌∷◌, Bool, true, false, cond, ℕ, ◌+◌, leb, length, take, drop}
use Rattle.codec.specs.declared.Decoded.{Decoded}
use Rattle.codec.specs.declared.DecodeError.{DecodeError}
use Rattle.codec.specs.Answers.{Answer, accepted, refused, answer_of}

abbrev pub Reader : Type 0 → Type 0
Reader A = List ℕ → Answer A

-- ---- answers

-- what comes after an accepted value
abbrev pub bind : {A B : Type 0} → Answer A → (A → ℕ → Answer B) → Answer B
bind (accepted a n) f = f a n
bind (refused k) f = refused k

-- the same answer, n bytes more consumed
abbrev pub shift : {A : Type 0} → ℕ → Answer A → Answer A
shift n (accepted a m) = accepted a (n + m)
shift n (refused k) = refused k

-- the value under another name
abbrev pub named : {A B : Type 0} → (A → B) → Answer A → Answer B
named f (accepted a n) = accepted (f a) n
named f (refused k) = refused k

-- the answer without its value
abbrev pub unvalued : {A : Type 0} → Answer A → Answer Unit
unvalued x = named (λ a. tt) x

-- 2 unless the test passed
abbrev pub passed : {A : Type 0} → Bool → Answer A → Answer A
passed true x = x
passed false x = refused 2

-- 1 unless the bytes are there
abbrev pub enough : Bool → List ℕ → ℕ → Answer (List ℕ)
enough true l n = accepted l n
enough false l n = refused 1

-- the code's answer r, whose value is joined with what b stands in a lent record, is the answer x; beside a refusal the record is blank
pub record Joins {H B A : Type 0} (join : H → B → A) (blank : B) (r : Result (Decoded H) DecodeError) (b : B) (x : Answer A) : Type 0 where
  pub answer : named (λ h. join h b) (answer_of r) ≡ x
  pub beside : (k : ℕ) → x ≡ refused k → b ≡ blank

-- ---- readers

-- a value that takes no bytes
abbrev pub give : {A : Type 0} → A → Reader A
give a s = accepted a 0

-- one byte
abbrev pub one_byte : Reader ℕ
one_byte [] = refused 1
one_byte (b ∷ s) = accepted b 1

-- n bytes
abbrev pub some_bytes : ℕ → Reader (List ℕ)
some_bytes n s = enough (leb n (length s)) (take n s) n

-- first r, then what its value asks for, from where r ended
abbrev pub and_then : {A B : Type 0} → Reader A → (A → Reader B) → Reader B
and_then r q s = bind (r s) (λ a n. shift n (q a (drop n s)))

-- 2 unless the test passes, before r reads
abbrev pub guard : {A : Type 0} → Bool → Reader A → Reader A
guard true r s = r s
guard false r s = refused 2

-- 2 unless the value that r read passes the test
abbrev pub checked : {A : Type 0} → (A → Bool) → Reader A → Reader A
checked t r s = bind (r s) (λ a n. passed (t a) (accepted a n))

-- the value that r reads, under another name
abbrev pub mapped : {A B : Type 0} → (A → B) → Reader A → Reader B
mapped f r s = named f (r s)

-- one of two readers, by a flag
abbrev pub choose : {A : Type 0} → Bool → Reader A → Reader A → Reader A
choose b p q s = cond b (p s) (q s)

-- 5 unless the reference is well formed, before r reads
abbrev pub on_formed : {A : Type 0} → Bool → Reader A → Reader A
on_formed true r s = r s
on_formed false r s = refused 5
