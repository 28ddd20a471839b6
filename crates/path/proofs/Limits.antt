-- Laws of components and their limits.
use Rattle.codec.proofs.Prelude.{◌≡◌, refl, sym, ap, ◌∙◌, List, [], ◌∷◌, ◌++◌, true, ℕ, zero, suc, ◌+◌, ◌≤◌, arith, leb, leb-true, le-leb, length, take, drop, take-append-drop}
use Rattle.codec.specs.Writings.{All}
use Rattle.path.specs.Limits.{max_component_length, max_component_count, max_path_length, total_of, limits, all_short, path_ok, Component, PathOk, TypedComponents}
use Rattle.codec.proofs.Tests.{and_left, and_right}

-- ---- totals
pub total_append : (a b : List (List ℕ)) → total_of (a ++ b) ≡ total_of a + total_of b
total_append [] b = omega arith
total_append (c ∷ a) b = omega (arith, total_append a b)

pub total_snoc : (cs : List (List ℕ)) (c : List ℕ) → total_of (cs ++ (c ∷ [])) ≡ total_of cs + length c
total_snoc cs c = total_append cs (c ∷ []) ∙ omega arith

pub total_split : (k : ℕ) (cs : List (List ℕ)) → total_of (take k cs) + total_of (drop k cs) ≡ total_of cs
total_split k cs = sym (total_append (take k cs) (drop k cs)) ∙ ap total_of (take-append-drop k cs)

-- ---- a fact of every component
module _ (P : List ℕ → Type 0) where
  pub all_append : (a b : List (List ℕ)) → All P a → All P b → All P (a ++ b)
  all_append [] b h k = k
  all_append (c ∷ a) b h k = (h.0, all_append a b h.1 k)

  pub all_take : (n : ℕ) (a : List (List ℕ)) → All P a → All P (take n a)
  all_take zero a h = tt
  all_take (suc n) [] h = tt
  all_take (suc n) (c ∷ a) h = (h.0, all_take n a h.1)

  pub all_drop : (n : ℕ) (a : List (List ℕ)) → All P a → All P (drop n a)
  all_drop zero a h = h
  all_drop (suc n) [] h = h
  all_drop (suc n) (c ∷ a) h = all_drop n a h.1

-- ---- tests and facts
pub typed_of : (cs : List (List ℕ)) → All Component cs → TypedComponents cs
typed_of [] h = tt
typed_of (c ∷ cs) h = (h.0.bytes, typed_of cs h.1)

short_of : (cs : List (List ℕ)) → All Component cs → all_short cs ≡ true
short_of [] h = refl
short_of (c ∷ cs) h = rw (le-leb (length c) max_component_length h.0.short) (short_of cs h.1)

components_of_short : (cs : List (List ℕ)) → TypedComponents cs → all_short cs ≡ true → All Component cs
components_of_short [] t e = tt
components_of_short (c ∷ cs) t e = (record { short = leb-true (length c) max_component_length (and_left _ _ e); bytes = t.0 }, components_of_short cs t.1 (and_right (leb (length c) max_component_length) _ e))

pub limits_total : (total count : ℕ) → limits total count ≡ true → total ≤ max_path_length
limits_total total count e = leb-true total max_path_length (and_left _ _ e)

pub limits_count : (total count : ℕ) → limits total count ≡ true → count ≤ max_component_count
limits_count total count e = leb-true count max_component_count (and_right (leb total max_path_length) _ e)

pub limits_of : (total count : ℕ) → total ≤ max_path_length → count ≤ max_component_count → limits total count ≡ true
limits_of total count t c = rw (le-leb total max_path_length t, le-leb count max_component_count c)

pub path_ok_lem : (cs : List (List ℕ)) → TypedComponents cs → path_ok cs ≡ true → PathOk cs
unfolding path_ok
path_ok_lem cs t e =
    let l : limits (total_of cs) (length cs) ≡ true = and_left _ _ e in
    record {
      total = limits_total (total_of cs) (length cs) l;
      count = limits_count (total_of cs) (length cs) l;
      all = components_of_short cs t (and_right (limits (total_of cs) (length cs)) _ e);
    }

pub ok_path : (cs : List (List ℕ)) → PathOk cs → path_ok cs ≡ true
unfolding path_ok
ok_path cs p = rw (limits_of (total_of cs) (length cs) p.total p.count) (short_of cs p.all)
