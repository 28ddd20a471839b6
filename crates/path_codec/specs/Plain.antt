-- docs/FORMAT.md, "Paths": the plain path, on records.
use Rattle.std.specs.Prelude.{List, Bool, true, ℕ}
use Rattle.codec.specs.Format.{Format, verdict_by}
use Rattle.codec.specs.Reader.{Reader, mapped}
use Rattle.path.specs.Record.{Path, components_of, path_from, well_formed}
use Rattle.path.specs.Limits.{limits}
use Rattle.path_suffix.specs.Suffix.{suffix_bytes, read_suffix}

-- a format of paths by their components: 5 unless well formed, then 3 unless inside
abbrev pub on_records : (List (List ℕ) → Bool) → (List (List ℕ) → List ℕ) → Format Path
on_records inside encode = record { check = λ p. verdict_by (well_formed p) (inside (components_of p)); encode = λ p. encode (components_of p) }

-- ---- the plain path
abbrev pub plain_path : Format Path
plain_path = on_records (λ cs. true) suffix_bytes

unfoldable pub read_path : Bool → Reader Path
read_path canonic = mapped path_from (read_suffix canonic limits)
