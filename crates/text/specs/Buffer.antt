-- Bytes put into a lent buffer from a place on.
use Rattle.std.specs.Prelude.{List, ◌++◌, cond, ℕ, ◌+◌, leb, length, take, drop}
use Rattle.codec.specs.Format.{over}

-- bytes from a place on over a buffer that is long enough
unfoldable pub over_at : ℕ → List ℕ → List ℕ → List ℕ
over_at at bs l = take at l ++ over bs (drop at l)

-- the buffer once bytes are put: as it was where they do not fit
unfoldable pub put_at : ℕ → List ℕ → List ℕ → List ℕ
put_at at bs l = cond (leb (at + length bs) (length l)) (over_at at bs l) l

-- the next place: the same where they do not fit
unfoldable pub place_after : ℕ → List ℕ → List ℕ → ℕ
place_after at bs l = cond (leb (at + length bs) (length l)) (at + length bs) at
