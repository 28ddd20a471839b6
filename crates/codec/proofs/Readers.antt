-- The laws of the readers of specs/Reader.antt: `x_back` for reading back, lenient or strict, `x_reads` for that and soundness.
-- The law of a chain is the same chain with the laws of its parts; `back_as` and `reads_as` then put its relation in other words.
use Rattle.codec.proofs.Prelude.{◌≡◌, refl, sym, ap, ◌∙◌, List, [], ◌∷◌, ◌++◌, append_assoc, Bool, true, false, ℕ, zero, suc, ◌+◌, ◌-◌, ◌≤◌, ◌<◌, arith, leb, leb-true, leb-false, le-leb, lt-leb, length, take, drop, length-append, length-take, length-drop, drop-append_seam, take-append-add, take-append-le, length-take-le, take-add, take_at}
use Rattle.codec.specs.Answers.{Answer, accepted, refused, AllBytes}
use Rattle.codec.specs.Reader.{Reader, bind, shift, named, passed, enough, give, one_byte, some_bytes, and_then, guard, checked, mapped, choose}
use Rattle.codec.specs.Reads.{ReadsBack, Reads}
use Rattle.codec.proofs.Relations.{Given, OneByte, SomeBytes, Joined, Tested, Mapped, Chosen}
use Rattle.codec.proofs.Bytes.{AllBytes-drop, AllBytes-take}

-- ---- what an accepted answer came from
pub bind_inv : {A B : Type 0} (r : Answer A) (f : A → ℕ → Answer B) (b : B) (n : ℕ) → bind r f ≡ accepted b n
    → (a : A) × (m : ℕ) × (r ≡ accepted a m) × (f a m ≡ accepted b n)
bind_inv (accepted a m) f b n e = (a, m, refl, e)
bind_inv (refused k) f b n e = let z : ◌≡◌ {A = ℕ} 0 1 = cc in absurd (omega arith)

pub shift_inv : {A : Type 0} (m : ℕ) (r : Answer A) (a : A) (n : ℕ) → shift m r ≡ accepted a n → (l : ℕ) × (r ≡ accepted a l) × (n ≡ m + l)
shift_inv m (accepted a' l) a n e = (l, cc, cc)
shift_inv m (refused k) a n e = let z : ◌≡◌ {A = ℕ} 0 1 = cc in absurd (omega arith)

pub named_inv : {A B : Type 0} (f : A → B) (r : Answer A) (b : B) (n : ℕ) → named f r ≡ accepted b n → (a : A) × (r ≡ accepted a n) × (f a ≡ b)
named_inv f (accepted a m) b n e = (a, cc, cc)
named_inv f (refused k) b n e = let z : ◌≡◌ {A = ℕ} 0 1 = cc in absurd (omega arith)

pub named_refused : {A B : Type 0} (f : A → B) (x : Answer A) (k : ℕ) → named f x ≡ refused k → x ≡ refused k
named_refused f (accepted a n) k e = let z : ◌≡◌ {A = ℕ} 0 1 = cc in absurd (omega arith)
named_refused f (refused j) k e = cc

pub passed_inv : {A : Type 0} (x : Bool) (a : A) (m : ℕ) (b : A) (n : ℕ) → passed x (accepted a m) ≡ accepted b n → (x ≡ true) × (a ≡ b) × (m ≡ n)
passed_inv true a m b n e = (refl, cc, cc)
passed_inv false a m b n e = let z : ◌≡◌ {A = ℕ} 0 1 = cc in absurd (omega arith)

-- ---- a relation in other words
pub back_as : {A : Type 0} (r : Reader A) (W U : A → List ℕ → Type 0) → ReadsBack r W → ((a : A) (e : List ℕ) → U a e → W a e) → ReadsBack r U
back_as r W U R g = record { complete = λ a e u t. R.complete a e (g a e u) t; cut = λ a e u k l. R.cut a e (g a e u) k l }

pub reads_as : {A : Type 0} (r : Reader A) (W U : A → List ℕ → Type 0) → Reads r W → ((a : A) (e : List ℕ) → W a e → U a e) → ((a : A) (e : List ℕ) → U a e → W a e) → Reads r U
reads_as r W U R f g = record { sound = λ s a n h e. let x = R.sound s a n h e in (x.0, f a (take n s) x.1); back = back_as r W U R.back g }

-- ---- a value that takes no bytes
pub give_back : {A : Type 0} (a : A) → ReadsBack (give a) (Given a)
give_back a = record { complete = λ b e w t. cc; cut = λ b e w k l. absurd (omega (arith, ap length w.1)) }

pub give_reads : {A : Type 0} (a : A) → Reads (give a) (Given a)
give_reads a = record { sound = λ s b n h e. let z : n ≡ 0 = cc in (omega arith, (cc, rw z refl)); back = give_back a }

-- ---- one byte
pub one_byte_back : ReadsBack one_byte OneByte
one_byte_back = record { complete = λ b e w t. rw w.1; cut = cut }
  where
    cut : (b : ℕ) (e : List ℕ) → OneByte b e → (k : ℕ) → k < length e → one_byte (take k e) ≡ refused 1
    cut b e w zero l = refl
    cut b e w (suc k) l = absurd (omega (arith, ap length w.1))

pub one_byte_reads : Reads one_byte OneByte
one_byte_reads = record { sound = sound; back = one_byte_back }
  where
    sound : (s : List ℕ) (b : ℕ) (n : ℕ) → AllBytes s → one_byte s ≡ accepted b n → (n ≤ length s) × OneByte b (take n s)
    sound [] b n h e = let z : ◌≡◌ {A = ℕ} 0 1 = cc in absurd (omega arith)
    sound (x ∷ s) b n h e =
        let p : x ≡ b = cc in
        let q : n ≡ 1 = cc in
        rw (q, ← p) (omega arith, (h 0, refl))

-- ---- n bytes
pub some_bytes_back : (n : ℕ) → ReadsBack (some_bytes n) (SomeBytes n)
some_bytes_back n = record {
  complete = λ l e w t.
      let fits : leb n (length (l ++ t)) ≡ true = le-leb n (length (l ++ t)) (simp length-append (omega arith)) in
      rw (w.2, fits, take_at l t n w.0) (ap (accepted l) (sym w.0));
  cut = λ l e w k lt.
      let short : leb n (length (take k e)) ≡ false = lt-leb n (length (take k e)) (simp length-take (omega (arith, ap length w.2))) in
      rw short;
}

pub some_bytes_reads : (n : ℕ) → Reads (some_bytes n) (SomeBytes n)
some_bytes_reads n = record { sound = λ s l m h e. sound (leb n (length s)) s l m h refl e; back = some_bytes_back n }
  where
    sound : (b : Bool) (s l : List ℕ) (m : ℕ) → AllBytes s → leb n (length s) ≡ b → enough b (take n s) n ≡ accepted l m → (m ≤ length s) × SomeBytes n l (take m s)
    sound true s l m h f e =
        let le : n ≤ length s = leb-true n (length s) f in
        let p : take n s ≡ l = cc in
        let q : m ≡ n = cc in
        rw (q, ← p) (le, (length-take-le n s le, AllBytes-take n s h, refl))
    sound false s l m h f e = let z : ◌≡◌ {A = ℕ} 0 1 = cc in absurd (omega arith)

-- ---- one reader after another: the second is given the law of the first's bytes
module _ {A B : Type 0} (r : Reader A) (W : A → List ℕ → Type 0) (q : A → Reader B) (U : A → B → List ℕ → Type 0) where
  module _ (R : ReadsBack r W) (Q : (a : A) (e : List ℕ) → W a e → ReadsBack (q a) (U a)) where
    then_complete : (b : B) (e : List ℕ) → Joined W U b e → (t : List ℕ) → and_then r q (e ++ t) ≡ accepted b (length e)
    then_complete b e w t =
        let p : r (e ++ t) ≡ accepted w.value (length w.front) = rw (w.whole, append_assoc) (R.complete w.value w.front w.first (w.rear ++ t)) in
        let d : drop (length w.front) (e ++ t) ≡ w.rear ++ t = rw (w.whole, append_assoc) (drop-append_seam w.front (w.rear ++ t)) in
        rw (p, d, (Q w.value w.front w.first).complete b w.rear w.second t) (ap (accepted b) (sym (simp length-append at (ap length w.whole))))

    then_cut : (b : B) (e : List ℕ) → Joined W U b e → (k : ℕ) → k < length e → and_then r q (take k e) ≡ refused 1
    then_cut b e w k l = go (leb (length w.front) k) refl
      where
        long : length e ≡ length w.front + length w.rear
        long = simp length-append at (ap length w.whole)

        go : (t : Bool) → leb (length w.front) k ≡ t → and_then r q (take k e) ≡ refused 1
        go false f =
            let lt : k < length w.front = omega (arith, leb-false) in
            let le : k ≤ length w.front = omega arith in
            let p : r (take k e) ≡ refused 1 = rw (w.whole, take-append-le) (R.cut w.value w.front w.first k lt) in
            rw p
        go true f =
            let j : ℕ = k - length w.front in
            let kj : k ≡ length w.front + j = omega (arith, leb-true) in
            let c : take k e ≡ w.front ++ take j w.rear = rw w.whole (ap (λ (i : ℕ). take i (w.front ++ w.rear)) kj ∙ take-append-add w.front w.rear j) in
            rw (c, R.complete w.value w.front w.first (take j w.rear), drop-append_seam, (Q w.value w.front w.first).cut b w.rear w.second j (omega (arith, long)))

    pub then_back : ReadsBack (and_then r q) (Joined W U)
    then_back = record { complete = then_complete; cut = then_cut }

  module _ (R : Reads r W) (Q : (a : A) (e : List ℕ) → W a e → Reads (q a) (U a)) where
    then_sound : (s : List ℕ) (b : B) (n : ℕ) → AllBytes s → and_then r q s ≡ accepted b n → (n ≤ length s) × Joined W U b (take n s)
    then_sound s b n h e =
        let (a, m, p, f) = bind_inv (r s) (λ a n. shift n (q a (drop n s))) b n e in
        let (j, g, eq) = shift_inv m (q a (drop m s)) b n f in
        let x = R.sound s a m h p in
        let y = (Q a (take m s) x.1).sound (drop m s) b j (AllBytes-drop m s h) g in (
          omega (arith, x.0, simp length-drop at y.0, eq),
          record { value = a; front = take m s; rear = take j (drop m s); whole = ap (λ (i : ℕ). take i s) eq ∙ take-add m j s; first = x.1; second = y.1 },
        )

    pub then_reads : Reads (and_then r q) (Joined W U)
    then_reads = record { sound = then_sound; back = then_back R.back (λ a e w. (Q a e w).back) }

-- ---- a test before reading: what is read after it may lean on it
pub guard_back : {A : Type 0} (b : Bool) (r : Reader A) (W : A → List ℕ → Type 0) → (b ≡ true → ReadsBack r W) → ReadsBack (guard b r) (Tested (λ a. b) W)
guard_back true r W R = record { complete = λ a e w t. (R refl).complete a e w.1 t; cut = λ a e w k l. (R refl).cut a e w.1 k l }
guard_back false r W R = record { complete = λ a e w t. let z : false ≡ true = w.0 in cc; cut = λ a e w k l. let z : false ≡ true = w.0 in cc }

pub guard_reads : {A : Type 0} (b : Bool) (r : Reader A) (W : A → List ℕ → Type 0) → (b ≡ true → Reads r W) → Reads (guard b r) (Tested (λ a. b) W)
guard_reads true r W R = record {
  sound = λ s a n h e. let x = (R refl).sound s a n h e in (x.0, (refl, x.1));
  back = guard_back true r W (λ ok. (R ok).back);
}
guard_reads false r W R = record {
  sound = λ s a n h e. let z : ◌≡◌ {A = ℕ} 0 1 = cc in absurd (omega arith);
  back = guard_back false r W (λ ok. (R ok).back);
}

-- ---- a test of the value
pub checked_back : {A : Type 0} (t : A → Bool) (r : Reader A) (W : A → List ℕ → Type 0) → ReadsBack r W → ReadsBack (checked t r) (Tested t W)
checked_back t r W R = record { complete = λ a e w u. rw (R.complete a e w.1 u, w.0); cut = λ a e w k l. rw (R.cut a e w.1 k l) }

pub checked_reads : {A : Type 0} (t : A → Bool) (r : Reader A) (W : A → List ℕ → Type 0) → Reads r W → Reads (checked t r) (Tested t W)
checked_reads t r W R = record {
  sound = λ s a n h e.
      let (b, m, p, q) = bind_inv (r s) (λ a n. passed (t a) (accepted a n)) a n e in
      let (ok, ab, mn) = passed_inv (t b) b m a n q in
      let x = R.sound s a n h (rw (ab, mn) at p) in
      (x.0, (rw ab at ok, x.1));
  back = checked_back t r W R.back;
}

-- ---- another name
pub mapped_back : {A B : Type 0} (f : A → B) (r : Reader A) (W : A → List ℕ → Type 0) → ReadsBack r W → ReadsBack (mapped f r) (Mapped f W)
mapped_back f r W R = record {
  complete = λ b e w t. rw (R.complete w.value e w.stands t) (ap (λ x. accepted x (length e)) w.named);
  cut = λ b e w k l. rw (R.cut w.value e w.stands k l);
}

pub mapped_reads : {A B : Type 0} (f : A → B) (r : Reader A) (W : A → List ℕ → Type 0) → Reads r W → Reads (mapped f r) (Mapped f W)
mapped_reads f r W R = record {
  sound = λ s b n h e.
      let (a, p, q) = named_inv f (r s) b n e in
      let x = R.sound s a n h p in
      (x.0, record { value = a; named = q; stands = x.1 });
  back = mapped_back f r W R.back;
}

-- ---- a choice by a flag
pub choose_back : {A : Type 0} (b : Bool) (p q : Reader A) (W U : A → List ℕ → Type 0) → ReadsBack p W → ReadsBack q U → ReadsBack (choose b p q) (Chosen b W U)
choose_back true p q W U P Q = record { complete = P.complete; cut = P.cut }
choose_back false p q W U P Q = record { complete = Q.complete; cut = Q.cut }

pub choose_reads : {A : Type 0} (b : Bool) (p q : Reader A) (W U : A → List ℕ → Type 0) → Reads p W → Reads q U → Reads (choose b p q) (Chosen b W U)
choose_reads true p q W U P Q = record { sound = P.sound; back = choose_back true p q W U P.back Q.back }
choose_reads false p q W U P Q = record { sound = Q.sound; back = choose_back false p q W U P.back Q.back }
