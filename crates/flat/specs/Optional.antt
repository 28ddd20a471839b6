-- docs/ABI.md, "Records": a part that may be missing, after its mark: the mark 0 before what is there, 1 before zeros where nothing is.
use Rattle.std.specs.Prelude.{List, ◌∷◌, Bool, true, cond, ◌&&◌, ℕ, Option, Some, None, eqb, take, drop, get_or, replicate}
use Rattle.path.specs.Record.{all_at_most}

abbrev pub option_flat : {A : Type 0} → ℕ → (A → List ℕ) → Option A → List ℕ
option_flat size flat None = 1 ∷ replicate size 0
option_flat size flat (Some a) = 0 ∷ flat a

-- the bytes from the first on are such a part's: the mark is 0, or 1 before zeros
unfoldable pub option_marked : ℕ → List ℕ → Bool
option_marked size s = cond (eqb (get_or s 0 0) 0) true (eqb (get_or s 0 0) 1 && all_at_most 0 (take size (drop 1 s)))

abbrev pub option_in : {A : Type 0} → (List ℕ → A) → List ℕ → Option A
option_in load s = cond (eqb (get_or s 0 0) 1) None (Some (load (drop 1 s)))
