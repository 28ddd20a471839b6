-- Laws of the components that two paths share.
use Rattle.codec.proofs.Prelude.{◌≡◌, refl, sym, ap, ◌∙◌, List, [], ◌∷◌, Bool, true, false, cond, ℕ, suc, ◌≤◌, arith, eqb, eqb-true, eqb-false, eq-eqb, ne_eqb, length, take, take_all}
use Rattle.codec.specs.Bytes.{same_bytes}
use Rattle.codec.proofs.SameBytes.{same_eq, same_refl}
use Rattle.path.specs.Prefix.{shared, is_prefix, same_path}
use Rattle.codec.proofs.Tests.{and_left, and_right}

-- ---- components
pub shared_nil : (a : List (List ℕ)) → shared a [] ≡ 0
shared_nil [] = refl
shared_nil (x ∷ a) = refl

eqb_sym : (a b : ℕ) → eqb a b ≡ eqb b a
eqb_sym a b = go (eqb a b) refl
  where
    go : (t : Bool) → eqb a b ≡ t → t ≡ eqb b a
    go true e = sym (eq-eqb b a (sym (eqb-true a b e)))
    go false e = sym (ne_eqb b a (λ q. eqb-false a b e (sym q)))

same_sym : (s t : List ℕ) → same_bytes s t ≡ same_bytes t s
same_sym [] [] = refl
same_sym [] (b ∷ t) = refl
same_sym (a ∷ s) [] = refl
same_sym (a ∷ s) (b ∷ t) = rw (eqb_sym a b, same_sym s t)

pub shared_sym : (r p : List (List ℕ)) → shared r p ≡ shared p r
shared_sym [] p = sym (shared_nil p)
shared_sym (r ∷ rs) [] = refl
shared_sym (r ∷ rs) (c ∷ p) = rw (same_sym r c, shared_sym rs p)

-- k leading components are the same
pub record Shares (r p : List (List ℕ)) (k : ℕ) : Type 0 where
  pub in_r : k ≤ length r
  pub in_p : k ≤ length p
  pub same : take k r ≡ take k p

pub shares : (r p : List (List ℕ)) → Shares r p (shared r p)
shares [] p = record { in_r = omega arith; in_p = omega arith; same = refl }
shares (r ∷ rs) [] = record { in_r = omega arith; in_p = omega arith; same = refl }
shares (r ∷ rs) (c ∷ p) = go (same_bytes r c) refl (shares rs p)
  where
    go : (b : Bool) → same_bytes r c ≡ b → Shares rs p (shared rs p) → Shares (r ∷ rs) (c ∷ p) (cond b (suc (shared rs p)) 0)
    go true e s = record { in_r = omega (arith, s.in_r); in_p = omega (arith, s.in_p); same = cc (same_eq r c e, s.same) }
    go false e s = record { in_r = omega arith; in_p = omega arith; same = refl }

-- ---- a prefix, by its bytes
pub prefix_takes : (r p : List (List ℕ)) → is_prefix r p ≡ true → take (length r) p ≡ r
unfolding is_prefix
prefix_takes r p e =
    let k : shared r p ≡ length r = eqb-true (shared r p) (length r) e in
    let s = rw k at (shares r p) in
    sym s.same ∙ take_all (length r) r (omega arith)

pub takes_prefix : (r p : List (List ℕ)) → take (length r) p ≡ r → is_prefix r p ≡ true
unfolding is_prefix
takes_prefix r p e = eq-eqb (shared r p) (length r) (all-shared r p e)
  where
    all-shared : (r p : List (List ℕ)) → take (length r) p ≡ r → shared r p ≡ length r
    all-shared [] p e = refl
    all-shared (c ∷ r) [] e = let z : ◌≡◌ {A = ℕ} 0 1 = cc in absurd (omega arith)
    all-shared (c ∷ r) (d ∷ p) e =
        let here : d ≡ c = cc in
        let rest : take (length r) p ≡ r = cc in
        rw (here, same_refl c) (ap suc (all-shared r p rest))

pub same_path_eq : (r p : List (List ℕ)) → same_path r p ≡ true → r ≡ p
unfolding same_path
same_path_eq r p e =
    let a = prefix_takes r p (and_left _ _ e) in
    let b = prefix_takes p r (and_right (is_prefix r p) _ e) in
    let s = shares r p in
    sym a ∙ take_all (length r) p (shorter r p b)
  where
    shorter : (r p : List (List ℕ)) → take (length p) r ≡ p → length p ≤ length r
    shorter r [] e = omega arith
    shorter [] (c ∷ p) e = let z : ◌≡◌ {A = ℕ} 0 1 = cc in absurd (omega arith)
    shorter (d ∷ r) (c ∷ p) e = omega (arith, shorter r p (cc))
