-- What readers of areas answer.
use Rattle.std.specs.Prelude.{List, [], ℕ, Result}
use Rattle.codec.specs.Answers.{Answer}
use Rattle.codec.specs.Reader.{Joins}
use Rattle.codec.specs.declared.Decoded.{Decoded}
use Rattle.codec.specs.declared.DecodeError.{DecodeError}
use Rattle.path.specs.Record.{path_from}
use Rattle.path.specs.Flat.{path_in}
use Rattle.grouping.specs.Record.{Area, area_with}
use Rattle.grouping.specs.declared.AreaHead.{AreaHead}

-- what an area has beside its path, and the record that the path was read into
abbrev pub ReadsArea : Result (Decoded AreaHead) DecodeError → List ℕ → Answer Area → Type 0
ReadsArea r path x = Joins (λ h p. area_with h p) (path_from []) r (path_in path) x
