-- What every value read has, in either mode: a law for each of specs/Reader.antt.
use Rattle.codec.proofs.Prelude.{◌≡◌, refl, Bool, true, false, ℕ, arith, length, drop}
use Rattle.codec.specs.Answers.{accepted, AllBytes}
use Rattle.codec.specs.Reader.{Reader, shift, passed, give, some_bytes, and_then, guard, checked, mapped, choose}
use Rattle.codec.specs.Reads.{Yields}
use Rattle.codec.proofs.Bytes.{AllBytes-drop}
use Rattle.codec.proofs.Readers.{bind_inv, shift_inv, named_inv, passed_inv, some_bytes_reads}

pub yields_as : {A : Type 0} (r : Reader A) (P Q : A → Type 0) → Yields r P → ((a : A) → P a → Q a) → Yields r Q
yields_as r P Q R f = record { holds = λ s a n h e. f a (R.holds s a n h e) }

pub give_yields : {A : Type 0} (a : A) → Yields (give a) (λ b. a ≡ b)
give_yields a = record { holds = λ s b n h e. cc }

pub some_bytes_yields : (n : ℕ) → Yields (some_bytes n) (λ l. (length l ≡ n) × AllBytes l)
some_bytes_yields n = record { holds = λ s l m h e. let x = ((some_bytes_reads n).sound s l m h e).1 in (x.0, x.1) }

pub then_yields : {A B : Type 0} (r : Reader A) (q : A → Reader B) (P : A → Type 0) (Q : B → Type 0) → Yields r P → ((a : A) → P a → Yields (q a) Q) → Yields (and_then r q) Q
then_yields r q P Q R S = record {
  holds = λ s b n h e.
      let (a, m, p, f) = bind_inv (r s) (λ a n. shift n (q a (drop n s))) b n e in
      let (j, g, k) = shift_inv m (q a (drop m s)) b n f in
      (S a (R.holds s a m h p)).holds (drop m s) b j (AllBytes-drop m s h) g;
}

pub guard_yields : {A : Type 0} (b : Bool) (r : Reader A) (P : A → Type 0) → (b ≡ true → Yields r P) → Yields (guard b r) P
guard_yields true r P R = record { holds = λ s a n h e. (R refl).holds s a n h e }
guard_yields false r P R = record { holds = λ s a n h e. let z : ◌≡◌ {A = ℕ} 0 1 = cc in absurd (omega arith) }

pub checked_yields : {A : Type 0} (t : A → Bool) (r : Reader A) (P : A → Type 0) → Yields r P → Yields (checked t r) (λ a. (t a ≡ true) × P a)
checked_yields t r P R = record {
  holds = λ s a n h e.
      let (b, m, p, q) = bind_inv (r s) (λ a n. passed (t a) (accepted a n)) a n e in
      let (ok, ba, mn) = passed_inv (t b) b m a n q in
      (rw ba at ok, R.holds s a n h (rw (ba, mn) at p));
}

pub mapped_yields : {A B : Type 0} (f : A → B) (r : Reader A) (P : B → Type 0) → Yields r (λ a. P (f a)) → Yields (mapped f r) P
mapped_yields f r P R = record { holds = λ s b n h e. let (a, p, q) = named_inv f (r s) b n e in rw (← q) (R.holds s a n h p) }

pub choose_yields : {A : Type 0} (b : Bool) (p q : Reader A) (P : A → Type 0) → Yields p P → Yields q P → Yields (choose b p q) P
choose_yields true p q P R S = record { holds = R.holds }
choose_yields false p q P R S = record { holds = S.holds }
