-- What readers of entries answer.
use Rattle.std.specs.Prelude.{List, [], ℕ, Result}
use Rattle.codec.specs.Answers.{Answer}
use Rattle.codec.specs.Reader.{Joins}
use Rattle.codec.specs.declared.Decoded.{Decoded}
use Rattle.codec.specs.declared.DecodeError.{DecodeError}
use Rattle.path.specs.Record.{path_from}
use Rattle.path.specs.Flat.{path_in}
use Rattle.entry.specs.Record.{Entry, entry_with}
use Rattle.entry.specs.declared.EntryFields.{EntryFields}

-- what an entry has beside its path, and the record that the path was read into
abbrev pub ReadsEntry : Result (Decoded EntryFields) DecodeError → List ℕ → Answer Entry → Type 0
ReadsEntry r path x = Joins (λ f p. entry_with f p) (path_from []) r (path_in path) x
