-- From strict to lenient: a chain whose tests ask less accepts what the stricter one accepts, and reads back what it reads back.
use Rattle.codec.proofs.Prelude.{◌≡◌, refl, sym, ap, ◌∙◌, List, ◌++◌, Bool, true, false, ℕ, arith, length, drop}
use Rattle.codec.specs.Answers.{Answer, accepted, refused}
use Rattle.codec.specs.Reader.{Reader, bind, shift, named, passed, and_then, guard, checked, mapped, choose}
use Rattle.codec.specs.Reads.{ReadsBack, Relaxes}
use Rattle.codec.proofs.Readers.{bind_inv, shift_inv, named_inv, passed_inv}

pub relaxes_back : {A : Type 0} (p q : Reader A) (W : A → List ℕ → Type 0) → Relaxes p q → ReadsBack p W → ReadsBack q W
relaxes_back p q W X R = record {
  complete = λ a e w t. X.accepts (e ++ t) a (length e) (R.complete a e w t);
  cut = λ a e w k l. X.ends _ (R.cut a e w k l);
}

pub relaxes_self : {A : Type 0} (r : Reader A) → Relaxes r r
relaxes_self r = record { accepts = λ s a n e. e; ends = λ s e. e }

-- by what answers the same
pub relaxes_same : {A : Type 0} (p q u : Reader A) → Relaxes p q → ((s : List ℕ) → q s ≡ u s) → Relaxes p u
relaxes_same p q u X f = record { accepts = λ s a n e. sym (f s) ∙ X.accepts s a n e; ends = λ s e. sym (f s) ∙ X.ends s e }

-- a test that all pass
pub checked-all : {A : Type 0} (r : Reader A) (s : List ℕ) → checked (λ a. true) r s ≡ r s
checked-all {A} r s = go (r s)
  where
    go : (x : Answer A) → bind x (λ a n. passed true (accepted a n)) ≡ x
    go (accepted a n) = refl
    go (refused k) = refl

pub guard_relaxes : {A : Type 0} (b c : Bool) (p q : Reader A) → (b ≡ true → c ≡ true) → (b ≡ true → Relaxes p q) → Relaxes (guard b p) (guard c q)
guard_relaxes true c p q h X = record {
  accepts = λ s a n e. rw (h refl) ((X refl).accepts s a n e);
  ends = λ s e. rw (h refl) ((X refl).ends s e);
}
guard_relaxes false c p q h X = record {
  accepts = λ s a n e. let z : ◌≡◌ {A = ℕ} 0 1 = cc in absurd (omega arith);
  ends = λ s e. let z : ◌≡◌ {A = ℕ} 2 1 = cc in absurd (omega arith);
}

pub mapped_relaxes : {A B : Type 0} (f : A → B) (p q : Reader A) → Relaxes p q → Relaxes (mapped f p) (mapped f q)
mapped_relaxes {A} {B} f p q X = record {
  accepts = λ s b n e. let (a, g, k) = named_inv f (p s) b n e in rw (X.accepts s a n g) (ap (λ x. accepted x n) k);
  ends = λ s e. ends s (p s) refl e;
}
  where
    ends : (s : List ℕ) (x : Answer A) → p s ≡ x → named f x ≡ refused 1 → mapped f q s ≡ refused 1
    ends s (accepted a n) g e = let z : ◌≡◌ {A = ℕ} 0 1 = cc in absurd (omega arith)
    ends s (refused k) g e = let one : k ≡ 1 = cc in rw (X.ends s (g ∙ ap refused one))

pub checked_relaxes : {A : Type 0} (t u : A → Bool) (p q : Reader A) → ((a : A) → t a ≡ true → u a ≡ true) → Relaxes p q → Relaxes (checked t p) (checked u q)
checked_relaxes {A} t u p q h X = record {
  accepts = λ s a n e.
      let (b, m, g, k) = bind_inv (p s) (λ a n. passed (t a) (accepted a n)) a n e in
      let (ok, ba, mn) = passed_inv (t b) b m a n k in
      rw (X.accepts s b m g, h b ok) (cc);
  ends = λ s e. ends s (p s) refl e;
}
  where
    tested : (x : Bool) (a : A) (n : ℕ) → passed x (accepted a n) ≡ refused 1 → ⊥
    tested true a n e = let z : ◌≡◌ {A = ℕ} 0 1 = cc in omega arith
    tested false a n e = let z : ◌≡◌ {A = ℕ} 2 1 = cc in omega arith

    ends : (s : List ℕ) (x : Answer A) → p s ≡ x → bind x (λ a n. passed (t a) (accepted a n)) ≡ refused 1 → checked u q s ≡ refused 1
    ends s (accepted a n) g e = absurd (tested (t a) a n e)
    ends s (refused k) g e = let one : k ≡ 1 = cc in rw (X.ends s (g ∙ ap refused one))

module _ {A B : Type 0} (p q : Reader A) (f g : A → Reader B) (X : Relaxes p q) (Y : (a : A) → Relaxes (f a) (g a)) where
  then_accepts : (s : List ℕ) (b : B) (n : ℕ) → and_then p f s ≡ accepted b n → and_then q g s ≡ accepted b n
  then_accepts s b n e =
      let (a, m, h, k) = bind_inv (p s) (λ a n. shift n (f a (drop n s))) b n e in
      let (j, l, eq) = shift_inv m (f a (drop m s)) b n k in
      rw (X.accepts s a m h, (Y a).accepts (drop m s) b j l) (ap (accepted b) (sym eq))

  then_ends : (s : List ℕ) (x : Answer A) → p s ≡ x → bind x (λ a n. shift n (f a (drop n s))) ≡ refused 1 → and_then q g s ≡ refused 1
  then_ends s (refused k) h e = let one : k ≡ 1 = cc in rw (X.ends s (h ∙ ap refused one))
  then_ends s (accepted a n) h e = rw (X.accepts s a n h) (go (f a (drop n s)) refl e)
    where
      go : (y : Answer B) → f a (drop n s) ≡ y → shift n y ≡ refused 1 → shift n (g a (drop n s)) ≡ refused 1
      go (accepted b m) k e = let z : ◌≡◌ {A = ℕ} 0 1 = cc in absurd (omega arith)
      go (refused m) k e = let one : m ≡ 1 = cc in rw ((Y a).ends (drop n s) (k ∙ ap refused one))

  pub then_relaxes : Relaxes (and_then p f) (and_then q g)
  then_relaxes = record { accepts = then_accepts; ends = λ s e. then_ends s (p s) refl e }

pub choose_relaxes : {A : Type 0} (b : Bool) (p q p' q' : Reader A) → Relaxes p p' → Relaxes q q' → Relaxes (choose b p q) (choose b p' q')
choose_relaxes true p q p' q' X Y = record { accepts = X.accepts; ends = X.ends }
choose_relaxes false p q p' q' X Y = record { accepts = Y.accepts; ends = Y.ends }
