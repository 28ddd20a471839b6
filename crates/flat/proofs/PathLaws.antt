-- Paths as flat bytes: there and back.
use Rattle.codec.proofs.Prelude.{◌≡◌, refl, ◌∙◌, ap, ◌&&◌, List, Bool, true, false, ℕ, arith, length, length-take, take, take_all}
use Rattle.path.specs.Record.{well_formed, TypedPath}
use Rattle.path.specs.Flat.{path_size, path_flat, path_in}
use Rattle.flat.specs.PathRecord.{path_if}
use Rattle.path.proofs.Record.{well_formed_lem}
use Rattle.path.proofs.Loads.{path_long, path_stores, path_taken, flat_back}
use Rattle.codec.specs.Answers.{AllBytes}
use Rattle.flat.specs.Laws.{Flat}

-- bytes whose marks are none are no path's
pub unmarked : (s : List ℕ) → well_formed (path_if false s) ≡ true → ⊥
unmarked s w = omega (arith, (well_formed_lem (path_if false s) w).count)

-- the bytes of a record are those that the path in it is stored as
pub path_stored : (s : List ℕ) → length s ≡ path_size → AllBytes s → path_flat (path_in s) ≡ s
path_stored s long b = path_stores s (omega arith) b ∙ take_all path_size s (omega arith)

-- a part of other bytes that is a record
pub path_within_lem : (p s : List ℕ) → (p ≡ take path_size s) × (length p ≡ path_size) → path_in p ≡ path_in s
path_within_lem p s e = ap path_in e.0 ∙ path_taken s (omega (arith, length-take path_size s, ap length e.0, e.1))

pub path_flat_lem : Flat TypedPath well_formed path_flat path_in path_size
path_flat_lem = record {
  long = path_long;
  loads = flat_back;
  stores = λ s long b w. path_stored s long b;
}

-- of two records, whatever they are: one that is not marked is not well formed
pub either_unmarked : (marked well : List ℕ → Bool) → ((s : List ℕ) → marked s ≡ false → well s ≡ false)
    → (s t : List ℕ) → (marked s && marked t) ≡ false → (well s && well t) ≡ false
either_unmarked marked well unmarked s t e = go (marked s) (marked t) refl refl e
  where
    no : (b : Bool) → (b && false) ≡ false
    no true = refl
    no false = refl

    go : (a b : Bool) → marked s ≡ a → marked t ≡ b → (a && b) ≡ false → (well s && well t) ≡ false
    go true true f g e = let z : ◌≡◌ {A = ℕ} 0 1 = cc in absurd (omega arith)
    go true false f g e = rw (unmarked t g) (no (well s))
    go false b f g e = rw (unmarked s f)
