-- docs/FORMAT.md, "Paths": a path's record, the bytes of its components one after the other, their lengths, and their count, unused parts zero. The code
-- holds it as bytes: Flat says how.
-- Definitions above this crate speak of `components_of`, `path_from`, `well_formed`, `sized` and the count, so that lengths may be held in another way; `flat`
-- alone hands them on.
use Rattle.std.specs.Prelude.{◌≡◌, List, [], ◌∷◌, ◌++◌, map, Bool, true, ◌&&◌, ℕ, ◌+◌, ◌-◌, leb, eqb, length, take, drop, get_or, replicate}
use Rattle.codec.specs.Answers.{AllBytes}
use Rattle.path.specs.Limits.{max_component_length, max_component_count, max_path_length, total_of}

pub record Path : Type 0 where
  pub bytes : List ℕ
  pub lengths : List ℕ
  pub count : ℕ

abbrev pub sum_of : List ℕ → ℕ
sum_of [] = 0
sum_of (l ∷ ls) = l + sum_of ls

abbrev pub joined : List (List ℕ) → List ℕ
joined [] = []
joined (c ∷ cs) = c ++ joined cs

-- bytes cut into parts of these lengths
abbrev pub cut_up : List ℕ → List ℕ → List (List ℕ)
cut_up [] bs = []
cut_up (l ∷ ls) bs = take l bs ∷ cut_up ls (drop l bs)

-- the lengths in use
abbrev pub used : Path → List ℕ
used p = take p.count p.lengths

-- ---- the components of a record, and the record of components
abbrev pub components_of : Path → List (List ℕ)
components_of p = cut_up (used p) p.bytes

unfoldable pub path_from : List (List ℕ) → Path
path_from cs = record {
  bytes = joined cs ++ replicate (max_path_length - total_of cs) 0;
  lengths = map length cs ++ replicate (max_component_count - length cs) 0;
  count = length cs;
}

-- ---- well formed: what 5 tests, also that a slice that is lent has a record's size
abbrev pub all_at_most : ℕ → List ℕ → Bool
all_at_most n [] = true
all_at_most n (l ∷ ls) = leb l n && all_at_most n ls

unfoldable pub well_formed : Path → Bool
well_formed p =
    eqb (length p.bytes) max_path_length
    && (eqb (length p.lengths) max_component_count
    && (leb p.count max_component_count
    && (all_at_most max_component_length (used p)
    && (leb (sum_of (used p)) max_path_length
    && (all_at_most 0 (drop p.count p.lengths) && all_at_most 0 (drop (sum_of (used p)) p.bytes))))))

-- the sizes alone, by which the components stand in the bytes. Functions inside the library test these; that no component is too long and that unused
-- parts are zero is tested where a record comes in
unfoldable pub sized : Path → Bool
sized p =
    eqb (length p.bytes) max_path_length
    && (eqb (length p.lengths) max_component_count && (leb p.count max_component_count && leb (sum_of (used p)) max_path_length))

-- what the language says of a record, by its size and its bytes
pub record TypedPath (p : Path) : Type 0 where
  pub bytes : length p.bytes ≡ max_path_length
  pub lengths : length p.lengths ≡ max_component_count
  pub small : AllBytes p.bytes

-- ---- one component: its length, also of one that is not there, and where its bytes start
unfoldable pub length_at : Path → ℕ → ℕ
length_at p i = get_or p.lengths i 0

abbrev pub start_at : Path → ℕ → ℕ
start_at p i = total_of (take i (components_of p))
