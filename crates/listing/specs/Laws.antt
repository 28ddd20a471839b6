-- What is claimed of the paths that the listing prints.
use Rattle.std.specs.Prelude.{◌≡◌, ◌↔◌, ◌⊎◌, List, Bool, true, ℕ, Some}
use Rattle.codec.specs.Answers.{accepted}
use Rattle.path.specs.Record.{components_of, well_formed, TypedPath}
use Rattle.grouping.specs.Record.{Area}
use Rattle.area_area.specs.Records.{read_against_area}
use Rattle.area_text.specs.AreaText.{area_text}
use Rattle.case_text.specs.Texts.{no_text, ended, read_text}
use Rattle.case_text.specs.Fields.{field, path_field}
use Rattle.listing.specs.Lines.{query_field, answer_to}

-- a line is answered with `ok`: a is the area that was read, in one of the modes, against what the line says
pub record Lists (line : List ℕ) (a : Area) : Type 0 where
  pub canonic : Bool
  pub reference : Area
  pub message : List ℕ
  pub consumed : ℕ
  pub says : query_field line ≡ Some (reference, message)
  pub read : read_against_area canonic reference message ≡ accepted a consumed
  pub answer : answer_to line ≡ ended (read_text area_text (accepted a consumed))
  pub formed : TypedPath a.path × (well_formed a.path ≡ true)

-- the fourth field of that answer is the path
abbrev pub listed_path : List ℕ → List ℕ
listed_path line = field 3 (answer_to line)

pub record ListingLaws : Type 0 where
  -- every line is refused by a number, or lists an area
  pub every : (line : List ℕ) → ((k : ℕ) × (answer_to line ≡ ended (no_text k))) ⊎ ((a : Area) × Lists line a)
  -- two paths are printed alike exactly when they have the same components
  pub alike : (l m : List ℕ) (a b : Area) → Lists l a → Lists m b → listed_path l ≡ listed_path m ↔ components_of a.path ≡ components_of b.path
  -- what is printed is read as it was, in whatever field of a line it stands
  pub back : (l : List ℕ) (a : Area) → Lists l a → (line : List ℕ) (i : ℕ) → field i line ≡ listed_path l → path_field i line ≡ Some a.path
