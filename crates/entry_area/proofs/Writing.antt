-- What the writers' definitions say at each step of the code.
use Rattle.codec.proofs.Prelude.{◌≡◌, sym, ◌∙◌, List, Bool, true, false, ◌&&◌, ℕ, eqb-true, length}
use Rattle.codec.specs.Format.{Format, allowed, refused_value}
use Rattle.path.specs.Record.{Path, components_of, sized, well_formed}
use Rattle.path.specs.Flat.{path_in, lent}
use Rattle.path.specs.Prefix.{shared, is_prefix}
use Rattle.codec.specs.Answers.{Said, said, unsaid}
use Rattle.codec.proofs.Tests.{and_left}
use Rattle.path.proofs.Verdicts.{said_known, unsaid_known}
use Rattle.path.proofs.Components.{Formed, parts_formed, count_is}
use Rattle.path.proofs.Records.{lent_known}
use Rattle.path_relative.specs.Records.{shared_by}
use Rattle.path_relative.proofs.Lent.{rest_allowed}
use Rattle.grouping.specs.Record.{area_of, area_with, well_formed_area}
use Rattle.grouping.specs.declared.AreaHead.{AreaHead}
use Rattle.entry.specs.Record.{Entry, entry_of, entry_with, well_formed_entry, says_entry_inside}
use Rattle.entry.specs.Entry.{entry_lies_inside}
use Rattle.entry.specs.declared.EntryFields.{EntryFields}
use Rattle.entry_area.specs.Entry.{entry_bytes}
use Rattle.entry_area.specs.Records.{against_namespace_area}
use Rattle.entry_area.specs.inside.Writing.{known_bytes}
use Rattle.entry_area.proofs.Entry.{inside as parts_inside}

-- ---- what is told of an entry with a path p against an area whose path is lent as s
module _ (n : List ℕ) (h : AreaHead) (f : EntryFields) (s : List ℕ) (p : Path) where
  abbrev against : Format Entry
  against = against_namespace_area n (area_with h (path_in s))

  abbrev inside : Said Bool
  inside = says_entry_inside n (area_with h (path_in s)) (entry_with f p)

  abbrev both : Bool
  both = well_formed_area (area_with h (path_in s)) && well_formed_entry (entry_with f p)

  abbrev lies : Bool
  lies = entry_lies_inside n (area_of (area_with h (path_in s))) (entry_of (entry_with f p))

  pub unformed : unsaid 5 ≡ inside → against.check (entry_with f p) ≡ refused_value 5
  unfolding says_entry_inside
  unformed e = rw (unsaid_known both lies 5 e).0

  pub outside : said false ≡ inside → against.check (entry_with f p) ≡ refused_value 3
  unfolding says_entry_inside
  outside e = let x = said_known both lies false e in rw (x.0, x.1)

  module _ (e : said true ≡ inside) where
    known : (both ≡ true) × (lies ≡ true)
    unfolding says_entry_inside
    known = said_known both lies true e

    pub contained : against.check (entry_with f p) ≡ allowed
    contained = rw (known.0, known.1)

    paths : (well_formed (path_in s) && well_formed p) ≡ true
    paths = known.0

    prefixed : shared (components_of (path_in s)) (components_of p) ≡ length (components_of (path_in s))
    unfolding is_prefix
    prefixed = eqb-true _ _ (parts_inside n (area_of (area_with h (path_in s))) (entry_of (entry_with f p)) known.1).prefix

    -- all components of the area's path are shared
    module _ (k : ℕ) (count : k ≡ lent 0 (λ x. x.count) s) where
      all-shared : shared (components_of (path_in s)) (components_of p) ≡ k
      all-shared =
          let w : Formed (path_in s) = parts_formed (and_left (well_formed (path_in s)) (well_formed p) paths) in
          prefixed ∙ count_is (path_in s) w ∙ sym (count ∙ lent_known s w 0 (λ x. x.count))

      pub shared_allowed : (shared_by sized k).check p ≡ allowed
      shared_allowed = rest_allowed (path_in s) p k (rw (paths, all-shared))

      pub entry_bytes_lem : against.encode (entry_with f p) ≡ known_bytes h f ((shared_by sized k).encode p)
      unfolding entry_bytes
      entry_bytes_lem = rw all-shared
