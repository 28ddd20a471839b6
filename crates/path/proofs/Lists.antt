-- Laws of lists of lengths, and of bytes cut by them.
use Rattle.codec.proofs.Prelude.{◌≡◌, refl, sym, ap, ◌∙◌, List, [], ◌∷◌, ◌++◌, map, append_assoc, Bool, true, false, eqb, ne_eqb, ◌&&◌, ℕ, zero, suc, ◌+◌, ◌-◌, ◌≤◌, ◌<◌, sub-zero, zero-sub, add-one, arith, leb, leb-true, lt-leb, length, take, drop, get_or, replicate, length-append, length-drop, drop_of_length-le, take-append-drop, take-append_seam, drop-append_seam, length-take-le, take-add, drop-cons, drop-drop}
use Rattle.std.specs.Int.Bits.{bit_or}
use Rattle.std.proofs.lemmas.Nat.{le_or_l, le_or_r}
use Rattle.path.specs.Limits.{total_of}
use Rattle.path.specs.Record.{sum_of, joined, cut_up, all_at_most}
use Rattle.codec.proofs.Tests.{and_left, and_right}

-- ---- sums
pub sum_snoc : (ls : List ℕ) (n : ℕ) → sum_of (ls ++ (n ∷ [])) ≡ sum_of ls + n
sum_snoc [] n = omega arith
sum_snoc (k ∷ ls) n = omega (arith, sum_snoc ls n)

pub sum_take : (i : ℕ) (ls : List ℕ) → sum_of (take i ls) + sum_of (drop i ls) ≡ sum_of ls
sum_take zero ls = omega arith
sum_take (suc i) [] = omega arith
sum_take (suc i) (l ∷ ls) = omega (arith, sum_take i ls)

-- ---- every element at most m
pub at_most_next : (m : ℕ) (s : List ℕ) (i : ℕ) → i < length s → all_at_most m (drop i s) ≡ (leb (get_or s i 0) m && all_at_most m (drop (i + 1) s))
at_most_next m s i h = rw (add-one, drop-cons s i 0)

pub at_most_end : (m : ℕ) (s : List ℕ) (i : ℕ) → length s ≤ i → all_at_most m (drop i s) ≡ true
at_most_end m s i h = rw drop_of_length-le

-- ---- zeros
at_most_zero : (b : ℕ) → leb b 0 ≡ true → b ≡ 0
at_most_zero b e = omega (arith, leb-true b 0 e)

zeros : (s : List ℕ) → all_at_most 0 s ≡ true → s ≡ replicate (length s) 0
zeros [] e = refl
zeros (b ∷ s) e = cc (at_most_zero b (and_left _ _ e), zeros s (and_right (leb b 0) _ e))

pub all_zeros : (n : ℕ) → all_at_most 0 (replicate n 0) ≡ true
all_zeros zero = refl
all_zeros (suc n) = all_zeros n

pub drop_zeros : (k n : ℕ) → drop k (replicate {A = ℕ} n 0) ≡ replicate (n - k) 0
drop_zeros zero n = rw (sub-zero n)
drop_zeros (suc k) zero = rw (zero-sub (suc k))
drop_zeros (suc k) (suc n) = let e : suc n - suc k ≡ n - k = omega arith in rw e (drop_zeros k n)

-- a list whose elements from n on are zero
pub zero_rest : (n : ℕ) (s : List ℕ) → all_at_most 0 (drop n s) ≡ true → take n s ++ replicate (length s - n) 0 ≡ s
zero_rest n s e =
    let z : drop n s ≡ replicate (length s - n) 0 = zeros (drop n s) e ∙ simp length-drop in
    rw (← z) (take-append-drop n s)

-- ---- bytes cut up, and put together
pub record Cut (ls bs : List ℕ) : Type 0 where
  pub total : total_of (cut_up ls bs) ≡ sum_of ls
  pub bytes : joined (cut_up ls bs) ≡ take (sum_of ls) bs
  pub lengths : map length (cut_up ls bs) ≡ ls
  pub count : length (cut_up ls bs) ≡ length ls

pub cut : (ls bs : List ℕ) → sum_of ls ≤ length bs → Cut ls bs
cut [] bs h = record { total = refl; bytes = refl; lengths = refl; count = refl }
cut (l ∷ ls) bs h =
    let r = cut ls (drop l bs) (simp length-drop (omega arith)) in
    let k : length (take l bs) ≡ l = length-take-le l bs (omega arith) in
    record { total = rw (k, r.total); bytes = rw r.bytes (sym (take-add l (sum_of ls) bs)); lengths = rw (k, r.lengths); count = ap suc r.count }

pub cut_joined : (cs : List (List ℕ)) (t : List ℕ) → cut_up (map length cs) (joined cs ++ t) ≡ cs
cut_joined [] t = refl
cut_joined (c ∷ cs) t = rw (append_assoc, take-append_seam, drop-append_seam) (ap (λ (x : List (List ℕ)). c ∷ x) (cut_joined cs t))

pub length-joined : (cs : List (List ℕ)) → length (joined cs) ≡ total_of cs
length-joined [] = refl
length-joined (c ∷ cs) = simp (length-append, length-joined cs)

pub sum_lengths : (cs : List (List ℕ)) → sum_of (map length cs) ≡ total_of cs
sum_lengths [] = refl
sum_lengths (c ∷ cs) = rw (sum_lengths cs)

pub drop_cut : (i : ℕ) (ls bs : List ℕ) → drop i (cut_up ls bs) ≡ cut_up (drop i ls) (drop (sum_of (take i ls)) bs)
drop_cut zero ls bs = refl
drop_cut (suc i) [] bs = refl
drop_cut (suc i) (l ∷ ls) bs = drop_cut i ls (drop l bs) ∙ rw drop-drop

pub take_cut : (i : ℕ) (ls bs : List ℕ) → take i (cut_up ls bs) ≡ cut_up (take i ls) bs
take_cut zero ls bs = refl
take_cut (suc i) [] bs = refl
take_cut (suc i) (l ∷ ls) bs = ap (λ (x : List (List ℕ)). take l bs ∷ x) (take_cut i ls (drop l bs))

pub joined-append : (a b : List (List ℕ)) → joined (a ++ b) ≡ joined a ++ joined b
joined-append [] b = refl
joined-append (c ∷ a) b = rw (joined-append a b) (sym (append_assoc c (joined a) (joined b)))

-- ---- parts of arrays, as the code takes them
pub drop-take : (k n : ℕ) (l : List ℕ) → drop k (take n l) ≡ take (n - k) (drop k l)
drop-take zero n l = rw (sub-zero n)
drop-take (suc k) zero l = rw (zero-sub (suc k))
drop-take (suc k) (suc n) [] = none (suc n - suc k)
  where
    none : (m : ℕ) → [] ≡ take {A = ℕ} m []
    none zero = refl
    none (suc m) = refl
drop-take (suc k) (suc n) (x ∷ l) = let e : suc n - suc k ≡ n - k = omega arith in rw e (drop-take k n l)

-- ---- bytes joined by `or`: zero as long as all of them are
zero_or : (a x : ℕ) → eqb (bit_or a x) 0 ≡ (eqb a 0 && leb x 0)
zero_or zero zero = refl
zero_or zero (suc x) = ne_eqb (bit_or 0 (suc x)) 0 (λ e. omega (arith, le_or_r 0 (suc x), e)) ∙ sym (lt-leb (suc x) 0 (omega arith))
zero_or (suc a) x =
    let some : eqb (suc a) 0 ≡ false = ne_eqb (suc a) 0 (λ e. omega (arith, e)) in
    rw some (ne_eqb (bit_or (suc a) x) 0 (λ e. omega (arith, le_or_l (suc a) x, e)))

at_most_snoc : (n : ℕ) (ys : List ℕ) (x : ℕ) → all_at_most n (ys ++ (x ∷ [])) ≡ (all_at_most n ys && leb x n)
at_most_snoc n [] x = go (leb x n)
  where
    go : (b : Bool) → (b && true) ≡ b
    go true = refl
    go false = refl
at_most_snoc n (y ∷ ys) x = rw (at_most_snoc n ys x) (go (leb y n))
  where
    go : (b : Bool) → (b && (all_at_most n ys && leb x n)) ≡ ((b && all_at_most n ys) && leb x n)
    go true = refl
    go false = refl

pub zeros_next : (ys : List ℕ) (a x : ℕ) → eqb a 0 ≡ all_at_most 0 ys → eqb (bit_or a x) 0 ≡ all_at_most 0 (ys ++ (x ∷ []))
zeros_next ys a x e = zero_or a x ∙ rw (e, at_most_snoc 0 ys x)
