-- What is claimed of a path's text.
use Rattle.std.specs.Prelude.{◌≡◌, ◌↔◌, List, true, ℕ, ◌≤◌, length}
use Rattle.codec.specs.Answers.{said}
use Rattle.path.specs.declared.Path.{Path as HeldPath}
use Rattle.path.specs.Record.{Path, components_of, path_from, well_formed, TypedPath}
use Rattle.path.specs.Limits.{PathOk}
use Rattle.path.specs.Flat.{path_in}
use Rattle.path_text.specs.PathText.{max_path_text, path_text, path_text_of, read_field, read_path_text}

pub record PathTextLaws : Type 0 where
  -- what was printed is read as it was: a path, and a path's record
  pub path : (cs : List (List ℕ)) → PathOk cs → read_path_text (path_text cs) ≡ read_field (path_from cs)
  pub record_back : (p : Path) → TypedPath p → well_formed p ≡ true → read_path_text (path_text_of p) ≡ read_field p
  -- two well-formed paths print alike exactly when they have the same components
  pub alike : (p q : Path) → TypedPath p → TypedPath q → well_formed p ≡ true → well_formed q ≡ true → path_text_of p ≡ path_text_of q ↔ components_of p ≡ components_of q
  -- what is read is well formed
  pub read : (s : List ℕ) (p : HeldPath) → read_path_text s ≡ said p → TypedPath (path_in p.flat) × (well_formed (path_in p.flat) ≡ true)
  -- how long the text of a record is at most
  pub path_few : (p : Path) → length (path_text_of p) ≤ max_path_text
