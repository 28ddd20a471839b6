-- Laws of writing into a lent buffer, for the proofs of writers: the exits of a writer, and one writing after another.
use Rattle.codec.proofs.Prelude.{◌≡◌, refl, sym, ap, ◌∙◌, List, [], ◌∷◌, ◌++◌, append_assoc, append-nil, Bool, true, false, cond, ℕ, ◌+◌, ◌-◌, ◌≤◌, ◌<◌, arith, leb, le-leb, lt-leb, leb-true, put_mid, length, take, drop, set, length-append, length-drop, drop_of_length-le, take-append-drop, take_all, take_at, drop_at, drop-drop, length-take-le, take-append-add, drop-append-add}
use Rattle.std.specs.Prelude.{Result, Ok, Err}
use Rattle.codec.specs.declared.EncodeError.{EncodeError}
use Rattle.codec.specs.declared.EncodeError.TheVariants as encoding
use Rattle.codec.specs.Answers.{Outcome, wrote, refused_writing, encode_number, outcome_of}
use Rattle.codec.specs.Format.{Format, Verdict, allowed, refused_value, over, length_by, in_room, put_answer, put_buffer, write_answer, write_buffer, length_answer, WritesInto}

-- ---- the exits of a writer, by the tests 5, 3 and 4
module _ (d : Verdict) (bs l : List ℕ) where
  pub put_refused_value : (k : ℕ) → d ≡ refused_value k → (refused_writing k ≡ put_answer d bs (length l)) × (l ≡ put_buffer d bs l)
  unfolding put_answer put_buffer
  put_refused_value k e = (rw e, rw e)

  module _ (e : d ≡ allowed) (n : ℕ) (long : n ≡ length bs) where
    pub put_full : length l < n → (refused_writing 4 ≡ put_answer d bs (length l)) × (l ≡ put_buffer d bs l)
    unfolding put_answer put_buffer
    put_full h =
        let k : leb (length bs) (length l) ≡ false = lt-leb (length bs) (length l) (omega arith) in
        (rw (e, k), rw (e, k))

    pub put_fits : n ≤ length l → (wrote n ≡ put_answer d bs (length l)) × (over bs l ≡ put_buffer d bs l)
    unfolding put_answer put_buffer
    put_fits h =
        let k : leb (length bs) (length l) ≡ true = le-leb (length bs) (length l) (omega arith) in
        (rw (e, k) (ap wrote long), rw (e, k))

  -- and what an answer tells
  pub put_refused_writing : (k : ℕ) → put_answer d bs (length l) ≡ refused_writing k → l ≡ put_buffer d bs l
  unfolding put_buffer
  put_refused_writing k e = rw e

-- what a writing that was not refused says
pub record Wrote (d : Verdict) (bs : List ℕ) (room n : ℕ) : Type 0 where
  pub allows : d ≡ allowed
  pub long : n ≡ length bs
  pub fits : n ≤ room

pub put_wrote : (d : Verdict) (bs : List ℕ) (room n : ℕ) → put_answer d bs room ≡ wrote n → Wrote d bs room n
unfolding put_answer
put_wrote (refused_value k) bs room n e = let z : ◌≡◌ {A = ℕ} 0 1 = cc in absurd (omega arith)
put_wrote allowed bs room n e = go (leb (length bs) room) refl e
  where
    go : (b : Bool) → leb (length bs) room ≡ b → cond b (wrote (length bs)) (refused_writing 4) ≡ wrote n → Wrote allowed bs room n
    go true p q = let l : n ≡ length bs = cc in record { allows = refl; long = l; fits = omega (arith, leb-true, l) }
    go false p q = let z : ◌≡◌ {A = ℕ} 0 1 = cc in absurd (omega arith)

-- where there is room, putting is writing over
pub put_over : (bs l : List ℕ) → length bs ≤ length l → put_buffer allowed bs l ≡ over bs l
put_over bs l h = sym (put_fits allowed bs l refl (length bs) refl h).1

-- what a length after a verdict tells of both
pub length_told : (d : Verdict) (m n : ℕ) → wrote n ≡ length_by d m → (d ≡ allowed) × (n ≡ m)
length_told allowed m n e = (refl, cc)
length_told (refused_value k) m n e = let z : ◌≡◌ {A = ℕ} 0 1 = cc in absurd (omega arith)

pub length_stopped : (d : Verdict) (m k : ℕ) → refused_writing k ≡ length_by d m → d ≡ refused_value k
length_stopped allowed m k e = let z : ◌≡◌ {A = ℕ} 0 1 = cc in absurd (omega arith)
length_stopped (refused_value j) m k e = let same : j ≡ k = cc in ap refused_value same

-- the exits of a written length
module _ {A : Type 0} (f : Format A) (v : A) where
  pub length_refused_value : (k : ℕ) → f.check v ≡ refused_value k → refused_writing k ≡ length_answer f v
  unfolding length_answer
  length_refused_value k e = rw e

  pub length_allowed : (n : ℕ) → f.check v ≡ allowed → n ≡ length (f.encode v) → wrote n ≡ length_answer f v
  unfolding length_answer
  length_allowed n e long = rw e (ap wrote long)

  -- and what a length that was answered tells
  pub length_wrote : (n : ℕ) → length_answer f v ≡ wrote n → (f.check v ≡ allowed) × (n ≡ length (f.encode v))
  unfolding length_answer
  length_wrote n e = length_told (f.check v) (length (f.encode v)) n (sym e)

  pub length_refused_writing : (k : ℕ) → length_answer f v ≡ refused_writing k → f.check v ≡ refused_value k
  unfolding length_answer
  length_refused_writing k e = length_stopped (f.check v) (length (f.encode v)) k (sym e)

  -- a length that is held to the room is what writing answers
  pub length_in_room : (whole r : Result ℕ EncodeError) (room : ℕ) → outcome_of whole ≡ length_answer f v → outcome_of r ≡ in_room (outcome_of whole) room → outcome_of r ≡ write_answer f v room
  unfolding length_answer put_answer
  length_in_room whole r room long e = e ∙ ap (λ (o : Outcome). in_room o room) long

  -- two formats that agree on a value
  module _ (g : Format A) (check : f.check v ≡ g.check v) (bytes : f.encode v ≡ g.encode v) where
    pub same_length : length_answer f v ≡ length_answer g v
    unfolding length_answer
    same_length = rw (check, bytes)

    pub same_writing : (l : List ℕ) → (write_answer f v (length l) ≡ write_answer g v (length l)) × (write_buffer f v l ≡ write_buffer g v l)
    same_writing l = (rw (check, bytes), rw (check, bytes))

-- answer and buffer, as one
pub writes_into : {A : Type 0} {f : Format A} {v : A} {e : Result ℕ EncodeError} {lent left : List ℕ} → (outcome_of e ≡ write_answer f v (length lent)) × (left ≡ write_buffer f v lent) → WritesInto f v e lent left
writes_into x = record { answer = x.0; buffer = x.1 }

-- writing, after its length was told: refused as that was, else 4 where it does not fit
module _ {A : Type 0} (f : Format A) (v : A) (l : List ℕ) where
  pub told_refused : (e : EncodeError) → outcome_of (Err e) ≡ length_answer f v → WritesInto f v (Err e) l l
  told_refused e told = writes_into (put_refused_value (f.check v) (f.encode v) l (encode_number e) (length_refused_writing f v (encode_number e) (sym told)))

  module _ (n : ℕ) (told : outcome_of (Ok n) ≡ length_answer f v) where
    pub told_full : length l < n → WritesInto f v (Err encoding.NoRoom) l l
    told_full h = let w = length_wrote f v n (sym told) in writes_into (put_full (f.check v) (f.encode v) l w.0 n w.1 h)

    pub told_fits : {left : List ℕ} → n ≤ length l → left ≡ over (f.encode v) l → WritesInto f v (Ok n) l left
    told_fits h e =
        let w = length_wrote f v n (sym told) in
        let p = put_fits (f.check v) (f.encode v) l w.0 n w.1 h in
        writes_into (p.0, e ∙ p.1)

-- a length that was written
pub written_is : (n m : ℕ) → wrote n ≡ wrote m → n ≡ m
written_is n m e = cc

pub wrote_not_refused_writing : (n k : ℕ) → wrote n ≡ refused_writing k → ⊥
wrote_not_refused_writing n k e = let z : ◌≡◌ {A = ℕ} 0 1 = cc in omega arith

-- what is put where there is room is not refused
pub put_done : (bs : List ℕ) (room : ℕ) (r : Result ℕ EncodeError) → length bs ≤ room → outcome_of r ≡ put_answer allowed bs room → r ≡ Ok (length bs)
unfolding put_answer
put_done bs room (Ok n) h e = let k = le-leb (length bs) room h in ap Ok (written_is n (length bs) (rw k at e))
put_done bs room (Err x) h e = let k = le-leb (length bs) room h in absurd (wrote_not_refused_writing (length bs) (encode_number x) (sym (rw k at e)))

-- a length that was told of what may be written
pub length_done : {A : Type 0} (f : Format A) (v : A) (r : Result ℕ EncodeError) → f.check v ≡ allowed → outcome_of r ≡ length_answer f v → r ≡ Ok (length (f.encode v))
length_done f v (Ok n) ok e = ap Ok (length_wrote f v n (sym e)).1
length_done f v (Err x) ok e = absurd (wrote_not_refused_writing (length (f.encode v)) (encode_number x) (length_allowed f v (length (f.encode v)) ok refl ∙ sym e))

-- ---- a part that goes to the end, lent and come back as ys
pub to_end : (n : ℕ) (l : List ℕ) → take (length l - n) (drop n l) ≡ drop n l
to_end n l = take_all (length l - n) (drop n l) (rw length-drop (omega arith))

pub put_end : (n : ℕ) (l ys : List ℕ) → put_mid n (length l - n) l ys ≡ take n l ++ ys
put_end n l ys =
    let h : length (drop n l) ≤ length l - n = rw length-drop (omega arith) in
    rw (drop_of_length-le (drop n l) h, append-nil ys)

pub put_end_long : (n : ℕ) (l ys : List ℕ) → n ≤ length l → length ys ≡ length (take (length l - n) (drop n l))
    → length (put_mid n (length l - n) l ys) ≡ length l
put_end_long n l ys h e =
    ap length (put_end n l ys) ∙ rw (length-append, length-take-le n l h, e, to_end n l, length-drop) (omega arith)

-- ---- one writing after another
pub over_then : (l a b : List ℕ) → take (length a) (over a l) ++ over b (drop (length a) (over a l)) ≡ over (a ++ b) l
over_then l a b =
    rw (take_at a (drop (length a) l) (length a) refl, drop_at a (drop (length a) l) (length a) refl, drop-drop, length-append) (sym (append_assoc a b (drop (length a + length b) l)))

-- x and then y from the n-th byte on, both put, are t
module _ {t : List ℕ} (x y l : List ℕ) (e : t ≡ x ++ y) (fits : length t ≤ length l) {n : ℕ} (long : n ≡ length x) where
  pair_long : n + length y ≤ length l
  pair_long = omega (arith, fits, long, ap length e ∙ length-append x y)

  pub pair_inside : {m : ℕ} → m ≡ length l → n ≤ m
  pair_inside kept = omega (arith, kept, pair_long)

  pub pair_over : {p q : List ℕ} → p ≡ over x l → length p ≡ length l → q ≡ over y (take (length p - n) (drop n p)) → put_mid n (length p - n) p q ≡ over t l
  pair_over {p} {q} first kept rest =
      let r : q ≡ over y (drop n p) = rw (to_end n p) at rest in
      put_end n p q ∙ rw (r, first, long) (over_then l x y) ∙ ap (λ (bs : List ℕ). over bs l) (sym e)

  pub pair_put : {p q : List ℕ} → p ≡ put_buffer allowed x l → length p ≡ length l → q ≡ put_buffer allowed y (take (length p - n) (drop n p))
      → put_mid n (length p - n) p q ≡ put_buffer allowed t l
  pair_put {p} {q} first kept rest =
      let room : length y ≤ length (take (length p - n) (drop n p)) = rw (to_end n p, length-drop) (omega (arith, kept, pair_long)) in
      pair_over (first ∙ put_over x l (omega (arith, pair_long, long))) kept (rest ∙ put_over y _ room) ∙ sym (put_over t l fits)

-- the same from a place on: what is left to write, after a was written from `at` on
pub over_turn : (l a b : List ℕ) (at : ℕ) → at ≤ length l
    → take at l ++ over (a ++ b) (drop at l)
    ≡ take (at + length a) (take at l ++ over a (drop at l)) ++ over b (drop (at + length a) (take at l ++ over a (drop at l)))
over_turn l a b at h =
    let p = over a (drop at l) in
    let k : length (take at l) ≡ at = length-take-le at l h in
    let t : take (at + length a) (take at l ++ p) ≡ take at l ++ take (length a) p = rw k at (take-append-add (take at l) p (length a)) in
    let d : drop (at + length a) (take at l ++ p) ≡ drop (length a) p = rw k at (drop-append-add (take at l) p (length a)) in
    rw (t, d, ← (over_then (drop at l) a b)) (sym (append_assoc (take at l) (take (length a) p) (over b (drop (length a) p))))

-- a byte set at the start, then bytes after it
pub over-cons : (l bs : List ℕ) (x : ℕ) → 1 ≤ length l → take 1 (set l 0 x) ++ over bs (drop 1 (set l 0 x)) ≡ over (x ∷ bs) l
over-cons [] bs x h = absurd (omega arith)
over-cons (y ∷ l) bs x h = refl

-- a byte alone
pub over_one : (l : List ℕ) (b : ℕ) → 1 ≤ length l → set l 0 b ≡ over (b ∷ []) l
over_one l b h = sym (take-append-drop 1 (set l 0 b)) ∙ over-cons l [] b h
