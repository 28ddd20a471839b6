-- docs/FORMAT.md, "Paths": a suffix, components of a path with their total length and their count. Plain paths, paths against a path and extensions are made of it.
use Rattle.std.specs.Prelude.{List, [], ◌∷◌, ◌++◌, Bool, ℕ, zero, suc, ◌+◌, ◌-◌, leb, eqb, length, drop}
use Rattle.codec.specs.Format.{Format, verdict_by}
use Rattle.codec.specs.Reader.{Reader, give, some_bytes, and_then, guard, mapped}
use Rattle.codec.specs.Header.{read_header}
use Rattle.compact_u64.specs.Number.{min_tag, number_bytes, read_number, standalone_bytes, read_standalone}
use Rattle.path.specs.Record.{Path, components_of}
use Rattle.path.specs.Limits.{max_component_length, total_of}
use Rattle.path_suffix.specs.declared.Sizes.{Sizes}
use Rattle.path_suffix.specs.declared.Tags.{Tags}
use Rattle.path_suffix.specs.Header.{total_width, count_width, unpack_tags, pack_tags}

-- ---- bytes

-- a component after its length
abbrev pub sized_bytes : List ℕ → List ℕ
sized_bytes c = standalone_bytes (length c) ++ c

-- every component but the last is preceded by its length
unfoldable pub component_bytes : List (List ℕ) → List ℕ
component_bytes [] = []
component_bytes (c ∷ []) = c
component_bytes (c ∷ d ∷ cs) = sized_bytes c ++ component_bytes (d ∷ cs)

abbrev pub sizes_from : ℕ → ℕ → Sizes
sizes_from total count = record { total = total; count = count }

abbrev pub sizes_of : List (List ℕ) → Sizes
sizes_of cs = sizes_from (total_of cs) (length cs)

abbrev pub tags_of : Sizes → Tags
tags_of h = record { total = min_tag total_width h.total; count = min_tag count_width h.count }

-- the header byte, and both numbers
unfoldable pub sizes_bytes : Sizes → List ℕ
sizes_bytes h = pack_tags (tags_of h) ∷ (number_bytes total_width h.total ++ number_bytes count_width h.count)

unfoldable pub suffix_bytes : List (List ℕ) → List ℕ
suffix_bytes cs = sizes_bytes (sizes_of cs) ++ component_bytes cs

-- ---- reading

unfoldable pub read_sizes : Bool → Reader Sizes
read_sizes canonic =
    and_then (read_header unpack_tags) (λ tags.
    and_then (read_number canonic total_width tags.total) (λ total.
    mapped (sizes_from total) (
    read_number canonic count_width tags.count)))

-- a component after its length: a length above the limit is 2 before its bytes are looked for
unfoldable pub read_sized : Bool → Reader (List ℕ)
read_sized canonic = and_then (read_standalone canonic) (λ len. guard (leb len max_component_length) (some_bytes len))

-- the last component is what the total leaves. Here lengths that ran over the total are noticed, and not before
unfoldable pub read_last : ℕ → ℕ → Reader (List ℕ)
read_last used total = guard (leb used total) (guard (leb (total - used) max_component_length) (some_bytes (total - used)))

-- so many components of total bytes in all, used of them read before
unfoldable pub read_components : Bool → ℕ → ℕ → ℕ → Reader (List (List ℕ))
read_components canonic zero used total = guard (eqb used total) (give [])
read_components canonic (suc zero) used total = mapped (λ c. c ∷ []) (read_last used total)
read_components canonic (suc (suc n)) used total =
    and_then (read_sized canonic) (λ c.
    mapped (λ cs. c ∷ cs) (
    read_components canonic (suc n) (used + length c) total))

-- `within total count` are limits, tested after both numbers and before the first component
unfoldable pub read_suffix : Bool → (ℕ → ℕ → Bool) → Reader (List (List ℕ))
read_suffix canonic within =
    and_then (read_sizes canonic) (λ h.
    guard (within h.total h.count) (
    read_components canonic h.count 0 h.total))

-- ---- on records

-- the suffix of a path from its k-th component on: 5 unless the record passes the test, then 3 where the path has fewer components
abbrev pub suffix_by : (Path → Bool) → ℕ → Format Path
suffix_by formed k = record { check = λ p. verdict_by (formed p) (leb k p.count); encode = λ p. suffix_bytes (drop k (components_of p)) }
