-- A reader consumes no more bytes than there are, in either mode: a law for each of specs/Reader.antt.
use Rattle.codec.proofs.Prelude.{ℕ, ◌+◌, ◌≤◌, ◌≡◌, refl, sym, List, [], ◌∷◌, Bool, true, false, arith, leb, leb-true, length, take, drop, length-drop}
use Rattle.codec.specs.Answers.{accepted}
use Rattle.codec.specs.Reader.{Reader, shift, passed, enough, give, one_byte, some_bytes, and_then, guard, checked, mapped, choose, on_formed}
use Rattle.codec.specs.Reads.{Bounded}
use Rattle.codec.proofs.Readers.{bind_inv, shift_inv, named_inv, passed_inv}

pub give_bounded : {A : Type 0} (a : A) → Bounded (give a)
give_bounded a = record { bound = λ s b n e. let z : n ≡ 0 = cc in omega arith }

pub one_byte_bounded : Bounded one_byte
one_byte_bounded = record { bound = bound }
  where
    bound : (s : List ℕ) (b n : ℕ) → one_byte s ≡ accepted b n → n ≤ length s
    bound [] b n e = let z : ◌≡◌ {A = ℕ} 0 1 = cc in absurd (omega arith)
    bound (x ∷ s) b n e = let z : n ≡ 1 = cc in omega arith

pub some_bytes_bounded : (n : ℕ) → Bounded (some_bytes n)
some_bytes_bounded n = record { bound = λ s l m e. bound s l m (leb n (length s)) refl e }
  where
    bound : (s l : List ℕ) (m : ℕ) (b : Bool) → leb n (length s) ≡ b → enough b (take n s) n ≡ accepted l m → m ≤ length s
    bound s l m true f e = let z : n ≡ m = cc in omega (arith, leb-true n (length s) f)
    bound s l m false f e = let z : ◌≡◌ {A = ℕ} 0 1 = cc in absurd (omega arith)

pub then_bounded : {A B : Type 0} (r : Reader A) (q : A → Reader B) → Bounded r → ((a : A) → Bounded (q a)) → Bounded (and_then r q)
then_bounded r q R Q = record {
  bound = λ s b n e.
      let (a, m, p, f) = bind_inv (r s) (λ a n. shift n (q a (drop n s))) b n e in
      let (j, g, k) = shift_inv m (q a (drop m s)) b n f in
      omega (arith, R.bound s a m p, (Q a).bound (drop m s) b j g, length-drop m s, k);
}

pub guard_bounded : {A : Type 0} (b : Bool) (r : Reader A) → Bounded r → Bounded (guard b r)
guard_bounded true r R = record { bound = λ s a n e. R.bound s a n e }
guard_bounded false r R = record { bound = λ s a n e. let z : ◌≡◌ {A = ℕ} 0 1 = cc in absurd (omega arith) }

pub checked_bounded : {A : Type 0} (t : A → Bool) (r : Reader A) → Bounded r → Bounded (checked t r)
checked_bounded t r R = record {
  bound = λ s a n e.
      let (b, m, p, q) = bind_inv (r s) (λ a n. passed (t a) (accepted a n)) a n e in
      let (ok, ba, mn) = passed_inv (t b) b m a n q in
      omega (arith, R.bound s b m p, mn);
}

pub mapped_bounded : {A B : Type 0} (f : A → B) (r : Reader A) → Bounded r → Bounded (mapped f r)
mapped_bounded f r R = record { bound = λ s b n e. let (a, p, q) = named_inv f (r s) b n e in R.bound s a n p }

pub choose_bounded : {A : Type 0} (b : Bool) (p q : Reader A) → Bounded p → Bounded q → Bounded (choose b p q)
choose_bounded true p q P Q = record { bound = P.bound }
choose_bounded false p q P Q = record { bound = Q.bound }

pub formed_bounded : {A : Type 0} (b : Bool) (r : Reader A) → Bounded r → Bounded (on_formed b r)
formed_bounded true r R = record { bound = λ s a n e. R.bound s a n e }
formed_bounded false r R = record { bound = λ s a n e. let z : ◌≡◌ {A = ℕ} 0 1 = cc in absurd (omega arith) }

-- what two readers, one after the other, consumed
pub both_bounded : {A B : Type 0} {r : Reader A} {q : Reader B} → Bounded r → Bounded q → (s : List ℕ) {a : A} {b : B} {n m : ℕ} → accepted a n ≡ r s → accepted b m ≡ q (drop n s) → n + m ≤ length s
both_bounded R Q s {a} {b} {n} {m} e f = omega (arith, R.bound s a n (sym e), Q.bound (drop n s) b m (sym f), length-drop n s)
