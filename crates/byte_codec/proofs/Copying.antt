-- A copy of s over the start of l.
use Rattle.codec.proofs.Prelude.{◌≡◌, refl, sym, ◌∙◌, List, ◌++◌, append_assoc, ℕ, ◌+◌, ◌-◌, ◌≤◌, arith, drop, drop-append-add, drop-drop, length, length-take-le, take, take-add, take-append-le, take-take, take_all}
use Rattle.codec.specs.Format.{over}

-- a block at `at`, over a copy of the first j bytes, to which it adds its own
pub copied_block : (l s p : List ℕ) (j at m : ℕ) → at ≤ j → j ≤ at + m → at + m ≤ length s → p ≡ take j s ++ drop j l
    → take at p ++ (take m (drop at s) ++ drop (at + m) p) ≡ take (at + m) s ++ drop (at + m) l
copied_block l s p j at m low high inside e =
    let x = at + m - j in
    let k : length (take j s) ≡ j = length-take-le j s (omega arith) in
    let a : take at p ≡ take at s = rw e (take-append-le at (take j s) (drop j l) (omega (arith, k)) ∙ take-take at j s low) in
    let n : at + m ≡ j + x = omega arith in
    let d : drop (at + m) p ≡ drop (at + m) l = rw (e, n) (rw k at (drop-append-add (take j s) (drop j l) x) ∙ drop-drop x j l) in
    rw (a, d, take-add at m s) (sym (append_assoc (take at s) (take m (drop at s)) (drop (at + m) l)))

-- and all of s
pub copied_all : (l s p : List ℕ) (i : ℕ) → i ≡ length s → p ≡ take i s ++ drop i l → p ≡ over s l
copied_all l s p i all e = e ∙ rw (all, take_all (length s) s (omega arith)) refl
