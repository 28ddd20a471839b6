-- What follows from the four laws for single values, and how a record comes to have them.
use Rattle.codec.proofs.Prelude.{◌≡◌, refl, sym, ap, ◌∙◌, ◌↔◌, Bool, true, false, List, [], ◌++◌, append_assoc, ℕ, arith, length, drop, length-take, take-append-drop, length-take-le}
use Rattle.codec.specs.Answers.{accepted, refused, AllBytes}
use Rattle.codec.specs.Format.{Format, Verdict, allowed, verdict_by, Valid, Writes, reshaped}
use Rattle.codec.specs.Reader.{Reader, mapped}
use Rattle.codec.specs.Reads.{Reads}
use Rattle.codec.proofs.Relations.{Mapped}
use Rattle.codec.specs.Lawful.{Begins, Lawful}
use Rattle.codec.proofs.Readers.{mapped_reads, reads_as}

-- both tests passed
pub verdict_allowed : (formed inside : Bool) → verdict_by formed inside ≡ allowed → (formed ≡ true) × (inside ≡ true)
verdict_allowed true true e = (refl, refl)
verdict_allowed true false e = let z : ◌≡◌ {A = ℕ} 0 1 = cc in absurd (omega arith)
verdict_allowed false inside e = let z : ◌≡◌ {A = ℕ} 0 1 = cc in absurd (omega arith)

module _ {A : Type 0} (Typed : A → Type 0) (f : Format A) (strict : Reader A) (L : Lawful Typed f strict) where
  -- what begins with v's bytes reads as v
  pub begins_reads : (s : List ℕ) (v : A) (n : ℕ) → Begins Typed f s v n → strict s ≡ accepted v n
  begins_reads s v n b =
      let e : s ≡ f.encode v ++ drop n s = cc (take-append-drop n s) in
      ap strict e ∙ L.complete v b.valid (drop n s) ∙ ap (accepted v) (sym b.long)

  pub exactly : (s : List ℕ) (v : A) (n : ℕ) → AllBytes s → strict s ≡ accepted v n ↔ Begins Typed f s v n
  exactly s v n h = (L.sound s v n h, begins_reads s v n)

  pub one_value : (s : List ℕ) (v w : A) (n m : ℕ) → Begins Typed f s v n → Begins Typed f s w m → (v ≡ w) × (n ≡ m)
  one_value s v w n m p q =
      let a : strict s ≡ accepted v n = begins_reads s v n p in
      let b : strict s ≡ accepted w m = begins_reads s w m q in
      (cc, cc)

  pub same_whatever_follows : (s t : List ℕ) (v : A) (n : ℕ) → AllBytes s → strict s ≡ accepted v n → strict (s ++ t) ≡ accepted v n
  same_whatever_follows s t v n h e =
      let b : Begins Typed f s v n = L.sound s v n h e in
      let split : s ≡ f.encode v ++ drop n s = cc (take-append-drop n s) in
      rw (split, append_assoc) (L.complete v b.valid (drop n s ++ t)) ∙ ap (accepted v) (sym b.long)

-- ---- the laws are those of a reader whose relation is the format's own
pub lawful_of : {A : Type 0} (Typed : A → Type 0) (f : Format A) (strict : Reader A) → Reads strict (Writes Typed f) → strict [] ≡ refused 1 → Lawful Typed f strict
lawful_of Typed f strict R none = record {
  sound = λ s v n h e.
      let x = R.sound s v n h e in
      record { valid = x.1.valid; long = sym (length-take-le n s x.0) ∙ ap length x.1.bytes; bytes = x.1.bytes };
  complete = λ v ok t. R.back.complete v (f.encode v) (record { valid = ok; bytes = refl }) t;
  cut = λ v ok k l. R.back.cut v (f.encode v) (record { valid = ok; bytes = refl }) k l;
  empty = none;
}

pub reads_of : {A : Type 0} (Typed : A → Type 0) (f : Format A) (strict : Reader A) → Lawful Typed f strict → Reads strict (Writes Typed f)
reads_of Typed f strict L = record {
  sound = λ s v n h e.
      let b = L.sound s v n h e in
      (omega (arith, simp length-take at (ap length b.bytes), b.long), record { valid = b.valid; bytes = b.bytes });
  back = record {
    complete = λ v e w t. rw w.bytes (L.complete v w.valid t);
    cut = λ v e w k l. rw w.bytes (L.cut v w.valid k (rw w.bytes at l));
  };
}

-- ---- the same values in another shape
module _ {A B : Type 0} (TA : A → Type 0) (f : Format A) (TB : B → Type 0) (view : B → A) (make : A → B) (check : B → Verdict)
    (out : (b : B) → Valid TB (reshaped f view check) b → Valid TA f (view b) × (make (view b) ≡ b))
    (in' : (a : A) → Valid TA f a → Valid TB (reshaped f view check) (make a) × (view (make a) ≡ a)) where
  pub reshaped_there : (b : B) (e : List ℕ) → Mapped make (Writes TA f) b e → Writes TB (reshaped f view check) b e
  reshaped_there b e m =
      let y = in' m.value m.stands.valid in
      rw (← m.named) (record { valid = y.0; bytes = m.stands.bytes ∙ ap f.encode (sym y.1) })

  pub reshaped_back : (b : B) (e : List ℕ) → Writes TB (reshaped f view check) b e → Mapped make (Writes TA f) b e
  reshaped_back b e w =
      let x = out b w.valid in
      record { value = view b; named = x.1; stands = record { valid = x.0; bytes = w.bytes } }

  pub reshaped_lawful : (strict : Reader A) → Lawful TA f strict → Lawful TB (reshaped f view check) (mapped make strict)
  reshaped_lawful strict L =
      lawful_of TB (reshaped f view check) (mapped make strict)
      (reads_as _ _ _ (mapped_reads make strict (Writes TA f) (reads_of TA f strict L)) reshaped_there reshaped_back)
      (rw L.empty)
