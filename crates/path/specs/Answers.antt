-- What the public functions on paths answer, with the numbers of docs/FORMAT.md, "Refusals".
use Rattle.std.specs.Prelude.{Bool, true, false, cond, ℕ, ltb, Result, Ok, Err}
use Rattle.codec.specs.Answers.{Said, said, unsaid}
use Rattle.path.specs.declared.PathError.{PathError}
use Rattle.path.specs.declared.PathError.TheVariants as path_error
use Rattle.path.specs.declared.ComponentBytes.{ComponentBytes}
use Rattle.path.specs.Record.{Path, well_formed, length_at, start_at}

-- 5 unless the records are formed
abbrev pub said_if : {A : Type 0} → Bool → A → Said A
said_if true a = said a
said_if false a = unsaid 5

-- the numbers of the code's refusals
abbrev pub path_number : PathError → ℕ
path_number path_error.Outside = 3
path_number path_error.Malformed = 5

abbrev pub component_answer : Result ComponentBytes PathError → Said ComponentBytes
component_answer (Ok place) = said place
component_answer (Err e) = unsaid (path_number e)

-- the i-th component: 5, then 3 where there is none
unfoldable pub component_at : Path → ℕ → Said ComponentBytes
component_at p i = cond (well_formed p) (cond (ltb i p.count) (said (record { start = start_at p i; len = length_at p i })) (unsaid 3)) (unsaid 5)
