-- A value is read from one form alone: a law for each of specs/Reader.antt.
use Rattle.codec.proofs.Prelude.{◌≡◌, refl, sym, ap, ◌∙◌, List, Bool, true, false, ℕ, ◌+◌, arith, take, drop, take-add}
use Rattle.codec.specs.Answers.{accepted, AllBytes}
use Rattle.codec.specs.Reader.{Reader, shift, passed, give, some_bytes, and_then, guard, checked, mapped, choose}
use Rattle.codec.specs.Reads.{Reads, Yields}
use Rattle.codec.proofs.Bytes.{AllBytes-drop}
use Rattle.codec.proofs.Readers.{bind_inv, shift_inv, named_inv, passed_inv, give_reads, some_bytes_reads}

-- the bytes of two readings of a value are the same
pub record Once {A : Type 0} (r : Reader A) : Type 0 where
  pub same : (s t : List ℕ) (a : A) (n m : ℕ) → AllBytes s → AllBytes t → r s ≡ accepted a n → r t ≡ accepted a m → take n s ≡ take m t

-- a fact of every value
pub all_yield : {A : Type 0} (r : Reader A) (P : A → Type 0) → ((a : A) → P a) → Yields r P
all_yield r P f = record { holds = λ s a n h e. f a }

pub reads_once : {A : Type 0} (r : Reader A) (W : A → List ℕ → Type 0) → Reads r W → ((a : A) (e d : List ℕ) → W a e → W a d → e ≡ d) → Once r
reads_once r W R f = record { same = λ s t a n m h k e d. f a (take n s) (take m t) (R.sound s a n h e).1 (R.sound t a m k d).1 }

pub give_once : {A : Type 0} (a : A) → Once (give a)
give_once a = reads_once (give a) _ (give_reads a) (λ b e d x y. x.1 ∙ sym y.1)

pub some_bytes_once : (n : ℕ) → Once (some_bytes n)
some_bytes_once n = reads_once (some_bytes n) _ (some_bytes_reads n) (λ l e d x y. x.2 ∙ sym y.2)

-- the first value is told by the second
pub then_once : {A B : Type 0} (r : Reader A) (q : A → Reader B) (π : B → A) → ((a : A) → Yields (q a) (λ b. π b ≡ a)) → Once r → ((a : A) → Once (q a)) → Once (and_then r q)
then_once {A} {B} r q π Y R Q = record { same = same }
  where
    joined : (s t : List ℕ) (a a' : A) (b : B) (i i' j j' : ℕ) → AllBytes s → AllBytes t → a' ≡ a → r s ≡ accepted a i → r t ≡ accepted a' i'
        → q a (drop i s) ≡ accepted b j → q a' (drop i' t) ≡ accepted b j' → take (i + j) s ≡ take (i' + j') t
    joined s t a a' b i i' j j' h k one p p' g g' =
        let front : take i s ≡ take i' t = R.same s t a i i' h k p (rw one at p') in
        let rear : take j (drop i s) ≡ take j' (drop i' t) = (Q a).same (drop i s) (drop i' t) b j j' (AllBytes-drop i s h) (AllBytes-drop i' t k) g (rw one at g') in
        rw (take-add i j s, take-add i' j' t, front, rear)

    same : (s t : List ℕ) (b : B) (n m : ℕ) → AllBytes s → AllBytes t → and_then r q s ≡ accepted b n → and_then r q t ≡ accepted b m → take n s ≡ take m t
    same s t b n m h k e d =
        let (a, i, p, f) = bind_inv (r s) (λ a n. shift n (q a (drop n s))) b n e in
        let (j, g, ni) = shift_inv i (q a (drop i s)) b n f in
        let (a', i', p', f') = bind_inv (r t) (λ a n. shift n (q a (drop n t))) b m d in
        let (j', g', mi) = shift_inv i' (q a' (drop i' t)) b m f' in
        let one : a' ≡ a = sym ((Y a').holds (drop i' t) b j' (AllBytes-drop i' t k) g') ∙ (Y a).holds (drop i s) b j (AllBytes-drop i s h) g in
        ap (λ (x : ℕ). take x s) ni ∙ joined s t a a' b i i' j j' h k one p p' g g' ∙ ap (λ (x : ℕ). take x t) (sym mi)

pub guard_once : {A : Type 0} (b : Bool) (r : Reader A) → (b ≡ true → Once r) → Once (guard b r)
guard_once true r R = record { same = λ s t a n m h k e d. (R refl).same s t a n m h k e d }
guard_once false r R = record { same = λ s t a n m h k e d. let z : ◌≡◌ {A = ℕ} 0 1 = cc in absurd (omega arith) }

pub checked_once : {A : Type 0} (t : A → Bool) (r : Reader A) → Once r → Once (checked t r)
checked_once {A} t r R = record { same = λ s u a n m h k e d. R.same s u a n m h k (passes s a n e) (passes u a m d) }
  where
    passes : (s : List ℕ) (a : A) (n : ℕ) → checked t r s ≡ accepted a n → r s ≡ accepted a n
    passes s a n e =
        let (b, m, p, q) = bind_inv (r s) (λ a n. passed (t a) (accepted a n)) a n e in
        let (ok, ba, mn) = passed_inv (t b) b m a n q in
        rw (ba, mn) at p

-- where the values read have the fact P, no two of them have one name
pub mapped_once : {A B : Type 0} (f : A → B) (r : Reader A) (P : A → Type 0) → Yields r P → ((a b : A) → P a → P b → f a ≡ f b → a ≡ b) → Once r → Once (mapped f r)
mapped_once f r P Y inj R = record {
  same = λ s t b n m h k e d.
      let (a, p, q) = named_inv f (r s) b n e in
      let (a', p', q') = named_inv f (r t) b m d in
      let one : a' ≡ a = inj a' a (Y.holds t a' m k p') (Y.holds s a n h p) (q' ∙ sym q) in
      R.same s t a n m h k p (rw one at p');
}

-- no two values have one name
pub named_once : {A B : Type 0} (f : A → B) (r : Reader A) → ((a b : A) → f a ≡ f b → a ≡ b) → Once r → Once (mapped f r)
named_once f r inj R = mapped_once f r (λ a. Unit {0}) (all_yield r _ (λ a. tt)) (λ a b x y e. inj a b e) R

pub choose_once : {A : Type 0} (b : Bool) (p q : Reader A) → Once p → Once q → Once (choose b p q)
choose_once true p q P Q = record { same = P.same }
choose_once false p q P Q = record { same = Q.same }
