-- What readers of 3d ranges answer.
use Rattle.std.specs.Prelude.{◌≡◌, List, [], true, ℕ, Result, IfOk}
use Rattle.codec.specs.Answers.{Answer}
use Rattle.codec.specs.Reader.{Joins}
use Rattle.codec.specs.declared.Decoded.{Decoded}
use Rattle.codec.specs.declared.DecodeError.{DecodeError}
use Rattle.path.specs.Record.{Path, path_from}
use Rattle.path.specs.Flat.{path_in}
use Rattle.range_3d.specs.Record.{Range3d, range_with}
use Rattle.range_3d.specs.declared.Range3dHead.{Range3dHead}

-- the head, and the records that the paths were read into; an open end leaves that for an end empty
pub record ReadsRange (r : Result (Decoded Range3dHead) DecodeError) (start end : List ℕ) (x : Answer Range3d) : Type 0 where
  pub reads : Joins {B = Path × Path} (λ h p. range_with h p.0 p.1) (path_from [], path_from []) r (path_in start, path_in end) x
  pub no_end : IfOk r (λ d. d.value.end_open ≡ true → path_in end ≡ path_from [])
