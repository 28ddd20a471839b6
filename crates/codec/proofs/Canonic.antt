-- The four laws of a reader that is strict by rewriting, from reading back, and from what every value read has; and how another reader tells what it accepts.
use Rattle.codec.proofs.Prelude.{◌≡◌, refl, sym, ap, ◌∙◌, List, [], ◌++◌, true, false, ℕ, ◌<◌, arith, length, take, drop, take-append-drop, take_at}
use Rattle.codec.specs.Answers.{Answer, accepted, refused, AllBytes}
use Rattle.codec.specs.Format.{Format, Verdict, allowed, refused_value, Valid, Writes}
use Rattle.codec.specs.Reader.{Reader, bind, passed, checked}
use Rattle.codec.specs.Reads.{ReadsBack, Yields}
use Rattle.codec.specs.Lawful.{Begins, Lawful}
use Rattle.codec.specs.Canonic.{allows, is_writing, canonic_by, ByRewriting, Refuses}
use Rattle.codec.proofs.Tests.{and_left, and_right, and_not}
use Rattle.codec.proofs.SameBytes.{same_eq, same_refl, different}
use Rattle.codec.proofs.Readers.{bind_inv, passed_inv}

pub allows_is : (d : Verdict) → allows d ≡ true → d ≡ allowed
allows_is allowed e = refl
allows_is (refused_value k) e = let z : false ≡ true = e in cc

module _ {A : Type 0} (f : Format A) where
  pub writing_is : (v : A) (e : List ℕ) → is_writing f v e ≡ true → (f.check v ≡ allowed) × (f.encode v ≡ e)
  unfolding is_writing
  writing_is v e h = (allows_is (f.check v) (and_left _ _ h), same_eq (f.encode v) e (and_right (allows (f.check v)) _ h))

  pub is_writing_lem : (v : A) (e : List ℕ) → f.check v ≡ allowed → f.encode v ≡ e → is_writing f v e ≡ true
  unfolding is_writing
  is_writing_lem v e ok same = rw (ok, same) (same_refl e)

  pub no_writing : (v : A) (e : List ℕ) → ((f.check v ≡ allowed) × (f.encode v ≡ e) → ⊥) → is_writing f v e ≡ false
  unfolding is_writing
  no_writing v e h = and_not (allows (f.check v)) _ (λ ok. different (f.encode v) e (λ same. h (allows_is (f.check v) ok, same)))

  module _ (lenient : Reader A) where
    pub canonic_inv : (s : List ℕ) (v : A) (n : ℕ) → canonic_by f lenient s ≡ accepted v n → (lenient s ≡ accepted v n) × (f.check v ≡ allowed) × (f.encode v ≡ take n s)
    unfolding canonic_by
    canonic_inv s v n e =
        let (w, m, p, q) = bind_inv (lenient s) (λ v n. passed (is_writing f v (take n s)) (accepted v n)) v n e in
        let (ok, wv, mn) = passed_inv (is_writing f w (take m s)) w m v n q in
        let x = writing_is v (take n s) (rw (wv, mn) at ok) in
        (rw (wv, mn) at p, x.0, x.1)

    pub canonic_of : (s : List ℕ) (v : A) (n : ℕ) → lenient s ≡ accepted v n → f.check v ≡ allowed → f.encode v ≡ take n s → canonic_by f lenient s ≡ accepted v n
    unfolding canonic_by
    canonic_of s v n e ok same = rw (e, is_writing_lem v (take n s) ok same)

    pub canonic_refuses : Refuses f (canonic_by f lenient) lenient
    unfolding canonic_by
    canonic_refuses = record {
      same = λ s k e. rw e;
      other = λ s v n e h. rw (e, no_writing v (take n s) h);
    }

    -- ---- the four laws
    module _ (Typed : A → Type 0) (back : ReadsBack lenient (Writes Typed f)) (typed : Yields lenient Typed) where
      pub canonic_lawful : lenient [] ≡ refused 1 → Lawful Typed f (canonic_by f lenient)
      canonic_lawful none = record { sound = sound; complete = complete; cut = cut; empty = canonic_refuses.same [] 1 none }
        where
          written : (v : A) → Valid Typed f v → Writes Typed f v (f.encode v)
          written v ok = record { valid = ok; bytes = refl }

          sound : (s : List ℕ) (v : A) (n : ℕ) → AllBytes s → canonic_by f lenient s ≡ accepted v n → Begins Typed f s v n
          sound s v n h e =
              let x = canonic_inv s v n e in
              let ok : Valid Typed f v = record { typed = typed.holds s v n h x.0; allows = x.1 } in
              let split : s ≡ f.encode v ++ drop n s = sym (take-append-drop n s) ∙ ap (λ (z : List ℕ). z ++ drop n s) (sym x.2) in
              let again : lenient s ≡ accepted v (length (f.encode v)) = ap lenient split ∙ back.complete v (f.encode v) (written v ok) (drop n s) in
              let same : accepted v n ≡ accepted v (length (f.encode v)) = sym x.0 ∙ again in
              record { valid = ok; long = cc; bytes = sym x.2 }

          complete : (v : A) → Valid Typed f v → (t : List ℕ) → canonic_by f lenient (f.encode v ++ t) ≡ accepted v (length (f.encode v))
          complete v ok t = canonic_of (f.encode v ++ t) v (length (f.encode v)) (back.complete v (f.encode v) (written v ok) t) ok.allows (sym (take_at (f.encode v) t (length (f.encode v)) refl))

          cut : (v : A) → Valid Typed f v → (k : ℕ) → k < length (f.encode v) → canonic_by f lenient (take k (f.encode v)) ≡ refused 1
          cut v ok k l = canonic_refuses.same (take k (f.encode v)) 1 (back.cut v (f.encode v) (written v ok) k l)

  -- ---- a reader that accepts the same tells what is accepted; of what it refuses the lenient one tells the number
  module _ (strict lenient : Reader A) (X : ByRewriting f strict lenient) (s : List ℕ) (h : AllBytes s) where
    pub tells_accepted : (v : A) (n : ℕ) → strict s ≡ accepted v n → canonic_by f lenient s ≡ accepted v n
    tells_accepted v n e = let x = (X.exactly s v n h).0 e in canonic_of lenient s v n x.0 x.1 x.2

    pub tells_refused : (k : ℕ) → strict s ≡ refused k → canonic_by f lenient s ≡ checked (λ v. false) lenient s
    unfolding canonic_by
    tells_refused k e = go (lenient s) refl
      where
        never : (v : A) (n : ℕ) → lenient s ≡ accepted v n → (f.check v ≡ allowed) × (f.encode v ≡ take n s) → ⊥
        never v n g x = let z : accepted v n ≡ refused k = sym ((X.exactly s v n h).1 (g, x.0, x.1)) ∙ e in let y : ◌≡◌ {A = ℕ} 0 1 = cc in omega arith

        go : (x : Answer A) → lenient s ≡ x → bind x (λ v n. passed (is_writing f v (take n s)) (accepted v n)) ≡ bind x (λ v n. passed false (accepted v n))
        go (accepted v n) g = rw (no_writing v (take n s) (never v n g))
        go (refused j) g = refl
