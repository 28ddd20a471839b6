-- Bytes that are read back as a value: a law for each of specs/Reader.antt.
use Rattle.codec.proofs.Prelude.{◌≡◌, refl, List, [], ◌++◌, Bool, true, ℕ, length}
use Rattle.codec.specs.Answers.{AllBytes}
use Rattle.codec.specs.Reader.{Reader, give, some_bytes, and_then, checked, mapped}
use Rattle.codec.specs.Reads.{ReadsAs, ReadsBack}
use Rattle.codec.proofs.Readers.{give_back, some_bytes_back, then_back, checked_back, mapped_back}

-- ---- one value, and all
module _ {A : Type 0} {r : Reader A} {W : A → List ℕ → Type 0} where
  pub one_of : {a : A} {e : List ℕ} → ReadsBack r W → W a e → ReadsAs r a e
  one_of {a} {e} R w = record { complete = R.complete a e w; cut = R.cut a e w }

  pub all_of : ((a : A) (e : List ℕ) → W a e → ReadsAs r a e) → ReadsBack r W
  all_of R = record { complete = λ a e w. (R a e w).complete; cut = λ a e w. (R a e w).cut }

-- ---- by reader
pub give_as : {A : Type 0} (a : A) → ReadsAs (give a) a []
give_as a = one_of (give_back a) (refl, refl)

pub bytes_as : (n : ℕ) (l : List ℕ) → length l ≡ n → AllBytes l → ReadsAs (some_bytes n) l l
bytes_as n l h b = one_of (some_bytes_back n) (h, b, refl)

module _ {A : Type 0} {r : Reader A} {a : A} {e : List ℕ} (R : ReadsAs r a e) where
  Only : A → List ℕ → Type 0
  Only x y = (x ≡ a) × (y ≡ e)

  only_back : ReadsBack r Only
  unfolding Only
  only_back = all_of (λ x y w. rw (w.0, w.1) R)

  pub then_as : {B : Type 0} (q : A → Reader B) {b : B} {d : List ℕ} → ReadsAs (q a) b d → ReadsAs (and_then r q) b (e ++ d)
  unfolding Only
  then_as q {b} {d} Q = one_of
      (then_back r Only q (λ x y z. (y ≡ b) × (z ≡ d)) only_back (λ x y w. all_of (λ y z v. rw (w.0, v.0, v.1) Q)))
      (record { value = a; front = e; rear = d; whole = refl; first = (refl, refl); second = (refl, refl) })

  pub checked_as : (t : A → Bool) → t a ≡ true → ReadsAs (checked t r) a e
  unfolding Only
  checked_as t h = one_of (checked_back t r Only only_back) (h, (refl, refl))

  pub mapped_as : {B : Type 0} (f : A → B) → ReadsAs (mapped f r) (f a) e
  unfolding Only
  mapped_as f = one_of (mapped_back f r Only only_back) (record { value = a; named = refl; stands = (refl, refl) })
