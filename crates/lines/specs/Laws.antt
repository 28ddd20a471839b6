-- The claim about a program that answers lines: however the input is cut into pieces, what is written is the answers to the lines of the whole.
-- Lines may have any length, and the last one may lack its newline.
use Rattle.std.specs.Prelude.{◌≡◌, ℕ, ◌<◌, take}
use mathlib.Core.List.{List, [], flatten}
use Rattle.lines.specs.Lines.{lines_of, answers}
use Rattle.lines.specs.Stream.{stream, Run}

-- at most `limit` bytes of a line matter to its answer
abbrev pub NeedsFirst : ℕ → (List ℕ → List ℕ) → Type 0
NeedsFirst limit f = (l : List ℕ) → f (take limit l) ≡ f l

-- f answers a line, and at most `limit` bytes are kept between two readings
pub record AnswersLines (f : List ℕ → List ℕ) (limit : ℕ) : Type 0 where
  pub whole : (cs : List (List ℕ)) → stream f limit [] cs ≡ answers f (lines_of (flatten cs))
  -- the output too may be cut
  pub steps : (most : ℕ) (cs : List (List ℕ)) (o : List ℕ) → Run f most limit [] cs o → o ≡ answers f (lines_of (flatten cs))

-- one byte at least is kept, so that a line that was begun is known
abbrev pub StreamClaim : Type 0
StreamClaim = (f : List ℕ → List ℕ) (limit : ℕ) → 0 < limit → NeedsFirst limit f → AnswersLines f limit
