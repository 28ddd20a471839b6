-- docs/FORMAT.md, "Paths": a path against a path, how many leading components are shared, and the suffix after them.
use Rattle.std.specs.Prelude.{List, ◌++◌, Bool, true, cond, ◌&&◌, ℕ, ◌+◌, leb, eqb, length, take, drop}
use Rattle.codec.specs.Reader.{Reader, and_then, checked, mapped}
use Rattle.compact_u64.specs.Number.{standalone_bytes, read_standalone}
use Rattle.path.specs.Limits.{total_of, limits}
use Rattle.path.specs.Prefix.{shared}
use Rattle.path_suffix.specs.Suffix.{suffix_bytes, read_suffix}

-- writing shares as many components as possible
abbrev pub against_bytes : List (List ℕ) → List (List ℕ) → List ℕ
against_bytes r p = standalone_bytes (shared r p) ++ suffix_bytes (drop (shared r p) p)

-- the shared count is not above the reference's, and the whole path is within the limits
unfoldable pub join_ok : List (List ℕ) → ℕ → ℕ → ℕ → Bool
join_ok r k total count = leb k (length r) && limits (total_of (take k r) + total) (k + count)

-- strictly, once the whole path is read: no further component could have been shared
unfoldable pub read_against : Bool → List (List ℕ) → Reader (List (List ℕ))
read_against canonic r =
    and_then (read_standalone canonic) (λ k.
    checked (λ p. cond canonic (eqb (shared r p) k) true) (
    mapped (λ cs. take k r ++ cs) (
    read_suffix canonic (join_ok r k))))
