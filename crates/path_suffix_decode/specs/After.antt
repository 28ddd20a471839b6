-- Reading components after others, as the code holds paths.
use Rattle.std.specs.Prelude.{List, ◌++◌, Bool, ◌&&◌, ℕ, ◌+◌, leb, length, take}
use Rattle.codec.specs.Reader.{Reader, mapped, guard, on_formed}
use Rattle.path.specs.Record.{Path, components_of, path_from, sized}
use Rattle.path.specs.Limits.{total_of, limits}
use Rattle.path_suffix.specs.Suffix.{read_components}

-- 2 unless all together are within the limits
unfoldable pub read_more : Bool → List (List ℕ) → ℕ → ℕ → Reader Path
read_more canonic cs total count =
    guard (limits (total_of cs + total) (length cs + count)) (
    mapped (λ ds. path_from (cs ++ ds)) (
    read_components canonic count 0 total))

-- after the first k of a path: 5 unless its sizes are within the limits and it has so many
unfoldable pub read_after : Bool → Path → ℕ → ℕ → ℕ → Reader Path
read_after canonic p k total count = on_formed (sized p && leb k p.count) (read_more canonic (take k (components_of p)) total count)
