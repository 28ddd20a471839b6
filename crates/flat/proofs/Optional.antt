-- Parts that may be missing, as flat bytes: there and back.
use Rattle.codec.proofs.Prelude.{◌≡◌, refl, sym, ap, List, [], ◌∷◌, ◌++◌, Bool, true, false, cond, ◌&&◌, ℕ, suc, ◌-◌, ◌≤◌, arith, eqb, get_or, length, take, drop, replicate, length-replicate, length-take-le, take_at, eqb-true, true≢false}
use Rattle.std.specs.Prelude.{Option, Some, None, option_map}
use Rattle.path.specs.Record.{all_at_most}
use Rattle.path.proofs.Lists.{all_zeros, zero_rest}
use Rattle.flat.specs.Optional.{option_flat, option_marked, option_in}

module _ {A : Type 0} (size : ℕ) (flat : A → List ℕ) (load : List ℕ → A) where
  pub option_long : (o : Option A) → ((a : A) → o ≡ Some a → length (flat a) ≡ size) → length (option_flat size flat o) ≡ suc size
  option_long None h = ap suc (length-replicate size 0)
  option_long (Some a) h = ap suc (h a refl)

  pub option_marked_lem : (o : Option A) (r : List ℕ) → option_marked size (option_flat size flat o ++ r) ≡ true
  unfolding option_marked
  option_marked_lem None r = rw (take_at (replicate size 0) r size (length-replicate size 0)) (all_zeros size)
  option_marked_lem (Some a) r = refl

  pub option_loads : (o : Option A) (r : List ℕ) → ((a : A) → o ≡ Some a → load (flat a ++ r) ≡ a) → option_in load (option_flat size flat o ++ r) ≡ o
  option_loads None r h = refl
  option_loads (Some a) r h = ap Some (h a refl)

  pub option_stores : (s : List ℕ) → suc size ≤ length s → option_marked size s ≡ true → flat (load (drop 1 s)) ≡ take size (drop 1 s)
      → option_flat size flat (option_in load s) ≡ take (suc size) s
  unfolding option_marked
  option_stores [] h m e = absurd (omega arith)
  option_stores (x ∷ s) h m e = go (eqb x 0) (eqb x 1) refl refl m
    where
      go : (a b : Bool) → eqb x 0 ≡ a → eqb x 1 ≡ b → cond a true (b && all_at_most 0 (take size s)) ≡ true → option_flat size flat (cond b None (Some (load s))) ≡ x ∷ take size s
      go true true p q n = absurd (omega (arith, eqb-true x 0 p, eqb-true x 1 q))
      go true false p q n = rw (eqb-true x 0 p) (ap (λ (l : List ℕ). 0 ∷ l) e)
      go false true p q n =
          let long : length (take size s) - 0 ≡ size = omega (arith, length-take-le size s (omega arith)) in
          let z : replicate size 0 ≡ take size s = rw long at (zero_rest 0 (take size s) n) in
          rw (eqb-true x 1 q) (ap (λ (l : List ℕ). 1 ∷ l) z)
      go false false p q n = absurd (true≢false (sym n))

-- a part is what its bytes load as
pub option_mapped : {A B : Type 0} (f : A → B) (load : List ℕ → A) (whole : List ℕ → B) (l : List ℕ) → f (load (drop 1 l)) ≡ whole (drop 1 l)
    → option_map f (option_in load l) ≡ option_in whole l
option_mapped f load whole l e = go (eqb (get_or l 0 0) 1)
  where
    go : (b : Bool) → option_map f (cond b None (Some (load (drop 1 l)))) ≡ cond b None (Some (whole (drop 1 l)))
    go true = refl
    go false = ap Some e
