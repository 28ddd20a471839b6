-- docs/FORMAT.md, "Paths": an extension of a path, the suffix after the reference, which is a prefix.
use Rattle.std.specs.Prelude.{List, ◌++◌, Bool, ℕ, length, drop}
use Rattle.codec.specs.Reader.{Reader, checked, mapped}
use Rattle.path.specs.Limits.{total_of, limits}
use Rattle.path_suffix.specs.Suffix.{suffix_bytes, read_suffix}

abbrev pub extension_bytes : List (List ℕ) → List (List ℕ) → List ℕ
extension_bytes r p = suffix_bytes (drop (length r) p)

-- the whole suffix is read, under its own limits, before those of the whole path are tested
unfoldable pub read_extension : Bool → List (List ℕ) → Reader (List (List ℕ))
read_extension canonic r =
    checked (λ p. limits (total_of p) (length p)) (
    mapped (λ cs. r ++ cs) (
    read_suffix canonic limits))
