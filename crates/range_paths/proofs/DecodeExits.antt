-- What the readers' definitions answer at each exit of the code.
use Rattle.codec.proofs.Prelude.{◌≡◌, refl, sym, ◌∙◌, List, [], Bool, true, false, false≢true, ℕ, ◌+◌, ◌≤◌, arith, length, drop, length-drop}
use Rattle.std.specs.Prelude.{Option, Some, None, Ok, Err}
use Rattle.codec.specs.declared.DecodeError.{DecodeError}
use Rattle.codec.specs.Answers.{Answer, accepted, refused, decode_number, Gives}
use Rattle.codec.specs.Reader.{mapped}
use Rattle.codec.proofs.Answers.{accepted_not_refused}
use Rattle.codec.proofs.Readers.{named_inv, named_refused}
use Rattle.codec.proofs.Bounded.{mapped_bounded}
use Rattle.codec.proofs.Tests.{and_left, and_right}
use Rattle.path.specs.Record.{Path, components_of, path_from, sized}
use Rattle.range_3d.specs.declared.Range.{Range}
use Rattle.range_3d.specs.Range3d.{end_named, end_passes}
use Rattle.range_3d.specs.Record.{paths_of, paths_from, paths_with, sized_paths}
use Rattle.range_paths.specs.declared.Sides.{Sides}
use Rattle.range_paths.specs.Paths.{read_from_end, read_side, read_paths}
use Rattle.range_paths.specs.Records.{read_paths_by, ReadsPaths}
use Rattle.range_paths.specs.inside.Reading.{read_from_end_in, read_side_in}
use Rattle.range_paths.proofs.Paths.{side_bounded}

-- ---- one path
from_end_sized : (e : Option Path) → end_passes sized e ≡ true → (m : List ℕ) → read_from_end_in e m ≡ mapped path_from (read_from_end (end_named components_of e)) m
from_end_sized None fit m = refl
from_end_sized (Some p) fit m = rw fit

side_sized : (r : Range Path) → sized_paths r ≡ true → (from_start : Bool) (m : List ℕ) → read_side_in r from_start m ≡ mapped path_from (read_side (paths_of r) from_start) m
side_sized r fit true m = rw (and_left (sized r.start) _ fit)
side_sized r fit false m = from_end_sized r.end (and_right (sized r.start) _ fit) m

-- ---- both, on values
module _ (r : Range (List (List ℕ))) (end_open : Bool) (s : Sides) (m : List ℕ) where
  start_fails : (k : ℕ) → mapped path_from (read_side r s.start_from_start) m ≡ refused k → mapped paths_from (read_paths r end_open s) m ≡ refused k
  unfolding read_paths
  start_fails k e = rw (named_refused path_from (read_side r s.start_from_start m) k e)

  module _ (p : Path) (a : ℕ) (e : mapped path_from (read_side r s.start_from_start) m ≡ accepted p a) where
    start_short : a ≤ length m
    start_short = (mapped_bounded path_from _ (side_bounded r s.start_from_start)).bound m p a e

    read_open : end_open ≡ true → mapped paths_from (read_paths r end_open s) m ≡ accepted (record { start = p; end = None }) a
    unfolding read_paths paths_from
    read_open o =
        let (cs, f, q) = named_inv path_from (read_side r s.start_from_start m) p a e in
        let none : a + 0 ≡ a = omega arith in
        rw (f, o, q, none)

    module _ (o : end_open ≡ false) where
      end_fails : (k : ℕ) → mapped path_from (read_side r s.end_from_start) (drop a m) ≡ refused k → mapped paths_from (read_paths r end_open s) m ≡ refused k
      unfolding read_paths
      end_fails k g =
          let (cs, f, q) = named_inv path_from (read_side r s.start_from_start m) p a e in
          rw (f, o, named_refused path_from (read_side r s.end_from_start (drop a m)) k g)

      module _ (t : Path) (b : ℕ) (g : mapped path_from (read_side r s.end_from_start) (drop a m) ≡ accepted t b) where
        end_short : a + b ≤ length m
        end_short = omega (arith, start_short, (mapped_bounded path_from _ (side_bounded r s.end_from_start)).bound (drop a m) t b g, length-drop a m)

        read_both : mapped paths_from (read_paths r end_open s) m ≡ accepted (record { start = p; end = Some t }) (a + b)
        unfolding read_paths paths_from
        read_both =
            let (cs, f, q) = named_inv path_from (read_side r s.start_from_start m) p a e in
            let (ds, h, z) = named_inv path_from (read_side r s.end_from_start (drop a m)) t b g in
            rw (f, o, h, q, z)

-- ---- both into lent records
pub nothing_read : {p : Path} {x : Answer Path} (e : DecodeError) → Gives (path_from []) (Err e) p x → p ≡ path_from []
nothing_read e g = g.value ∙ rw (← g.answer)

module _ {end_open : Bool} {x : Answer (Range Path)} {p t : Path} where
  pub reads_refused : (e : DecodeError) → p ≡ path_from [] → t ≡ path_from [] → x ≡ refused (decode_number e) → ReadsPaths end_open (Err e) p t x
  reads_refused e start end is = record { answer = sym is; beside = λ k q. (start, end); no_end = λ o. end }

  reads_accepted : (n : ℕ) → (end_open ≡ true → t ≡ path_from []) → x ≡ accepted (paths_with p end_open t) n → ReadsPaths end_open (Ok n) p t x
  reads_accepted n none is = record { answer = sym is; beside = λ k q. absurd (accepted_not_refused _ n k (sym is ∙ q)); no_end = none }

-- the sizes of the reference are tested
module _ (end_open : Bool) (s : Sides) (r : Range Path) (m : List ℕ) where
  pub paths_unsized : sized_paths r ≡ false → read_paths_by sized_paths end_open s r m ≡ refused 5
  paths_unsized e = rw e

  module _ (fit : sized_paths r ≡ true) where
    paths_sized : read_paths_by sized_paths end_open s r m ≡ mapped paths_from (read_paths (paths_of r) end_open s) m
    paths_sized = rw fit

    pub no_start : (k : ℕ) → refused k ≡ read_side_in r s.start_from_start m → read_paths_by sized_paths end_open s r m ≡ refused k
    no_start k e = paths_sized ∙ start_fails (paths_of r) end_open s m k (sym (e ∙ side_sized r fit s.start_from_start m))

    module _ {p : Path} {a : ℕ} (e : accepted p a ≡ read_side_in r s.start_from_start m) where
      start_told : mapped path_from (read_side (paths_of r) s.start_from_start) m ≡ accepted p a
      start_told = sym (e ∙ side_sized r fit s.start_from_start m)

      pub start_read : end_open ≡ true → {t : Path} → t ≡ path_from [] → ReadsPaths end_open (Ok a) p t (read_paths_by sized_paths end_open s r m)
      start_read o none = reads_accepted a (λ q. none) (paths_sized ∙ read_open (paths_of r) end_open s m p a start_told o ∙ rw o)

      module _ (o : end_open ≡ false) where
        pub no_end_lem : (k : ℕ) → refused k ≡ read_side_in r s.end_from_start (drop a m) → read_paths_by sized_paths end_open s r m ≡ refused k
        no_end_lem k g = paths_sized ∙ end_fails (paths_of r) end_open s m p a start_told o k (sym (g ∙ side_sized r fit s.end_from_start (drop a m)))

        module _ {t : Path} {b : ℕ} (g : accepted t b ≡ read_side_in r s.end_from_start (drop a m)) where
          end_told : mapped path_from (read_side (paths_of r) s.end_from_start) (drop a m) ≡ accepted t b
          end_told = sym (g ∙ side_sized r fit s.end_from_start (drop a m))

          pub end_within : a + b ≤ length m
          end_within = end_short (paths_of r) end_open s m p a start_told o t b end_told

          pub both_read : ReadsPaths end_open (Ok (a + b)) p t (read_paths_by sized_paths end_open s r m)
          both_read = reads_accepted (a + b) (λ q. absurd (false≢true (sym o ∙ q))) (paths_sized ∙ read_both (paths_of r) end_open s m p a start_told o t b end_told ∙ rw o)
