-- A line that is too long.
use Rattle.codec.proofs.Prelude.{◌≡◌, List, ℕ, ◌<◌, lt-leb, length}
use Rattle.case_text.specs.Texts.{six, ended}
use Rattle.listing.specs.Lines.{max_line, answer_to}

pub long_refused : (line : List ℕ) → max_line < length line → answer_to line ≡ ended six
unfolding answer_to
long_refused line h = rw (lt-leb _ _ h)
