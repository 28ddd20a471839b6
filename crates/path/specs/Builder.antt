-- Builders: paths that grow by components, in a lent record.
use Rattle.std.specs.Prelude.{◌≡◌, List, [], ◌∷◌, ◌++◌, map, Bool, true, ◌&&◌, ℕ, ◌+◌, ◌*◌, leb, ltb, length, take, drop, Result, Ok, Err, IfOk, OnErr}
use Rattle.codec.specs.Format.{Verdict, allowed, refused_value, verdict_by, over}
use Rattle.path.specs.Record.{Path, joined, components_of, path_from, sized}
use Rattle.path.specs.declared.PathBuilder.{PathBuilder}
use Rattle.path.specs.declared.PathError.{PathError}
use Rattle.path.specs.Limits.{max_component_length, max_component_count, max_path_length, total_of}
use Rattle.path.specs.Answers.{path_number}
use Rattle.path.specs.Flat.{lengths_start, bytes_start, shorts, path_flat}

-- a builder and the record that it writes into
pub record Built : Type 0 where
  pub builder : PathBuilder
  pub bytes : List ℕ

abbrev pub built : PathBuilder → List ℕ → Built
built b s = record { builder = b; bytes = s }

abbrev pub builder_of : ℕ → ℕ → PathBuilder
builder_of total count = record { total = total; count = count }

-- those of these components
unfoldable pub built_from : List (List ℕ) → Built
built_from cs = built (builder_of (total_of cs) (length cs)) (path_flat (path_from cs))

-- bytes over others from a place on
abbrev pub over_from : ℕ → List ℕ → List ℕ → List ℕ
over_from at bs s = take at s ++ over bs (drop at s)

-- a component of n bytes fits after count others of total bytes
unfoldable pub fits_after : ℕ → ℕ → ℕ → Bool
fits_after total count n = leb n max_component_length && (ltb count max_component_count && leb (total + n) max_path_length)

-- in a record of any content: the bytes of components after `total` others, their lengths after `count` others, and the count
unfoldable pub record_more : ℕ → ℕ → List (List ℕ) → List ℕ → List ℕ
record_more total count cs s = over ((count + length cs) ∷ []) (over_from (lengths_start + 2 * count) (shorts (map length cs)) (over_from (bytes_start + total) (joined cs) s))

-- one component more
abbrev pub built_more : PathBuilder → List ℕ → List ℕ → Built
built_more b c s = built (builder_of (b.total + length c) (b.count + 1)) (record_more b.total b.count (c ∷ []) s)

-- what an answer says of the builder that was asked for
abbrev pub grown_verdict : Result PathBuilder PathError → Verdict
grown_verdict (Ok b) = allowed
grown_verdict (Err e) = refused_value (path_number e)

-- the answer g and the record left: what was asked for, or the record that there is beside a refusal
pub record Grows (d : Verdict) (grown : Built) (beside : List ℕ) (g : Result PathBuilder PathError) (left : List ℕ) : Type 0 where
  pub answer : grown_verdict g ≡ d
  pub is : IfOk g (λ b. built b left ≡ grown)
  pub same : OnErr g (left ≡ beside)

-- appending a component: 3 unless it fits, the record then unchanged
abbrev pub Appends : PathBuilder → List ℕ → List ℕ → Result PathBuilder PathError → List ℕ → Type 0
Appends b c s g left = Grows (verdict_by true (fits_after b.total b.count (length c))) (built_more b c s) s g left

-- the first k components of a path: 5 unless its sizes are within the limits, then 3 where there are fewer; the record is then that of no component
abbrev pub Prefixes : Path → ℕ → Result PathBuilder PathError → List ℕ → Type 0
Prefixes p k g left = Grows (verdict_by (sized p) (leb k p.count)) (built_from (take k (components_of p))) (path_flat (path_from [])) g left
