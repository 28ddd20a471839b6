-- Text put by a writer: as `put_at` and `place_after` say, from its place on.
use Rattle.std.specs.Prelude.{◌≡◌, List, ℕ, length}
use Rattle.text.specs.declared.Writer.{Writer}
use Rattle.text.specs.Buffer.{put_at, place_after}

abbrev pub Writes : List ℕ → Writer → Writer → Type 0
Writes t w w' = (w'.at ≡ place_after w.at t w.out.now) × (w'.out.now ≡ put_at w.at t w.out.now)

-- the buffer is the one that was lent, and keeps its length
abbrev pub Keeps : Writer → Writer → Type 0
Keeps w w' = (w'.out.ghost_name ≡ w.out.ghost_name) × (length w'.out.now ≡ length w.out.now)
