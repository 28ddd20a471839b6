-- What a plain path is read as, by its sizes: refused with them, else its components after none.
use Rattle.codec.proofs.Prelude.{◌≡◌, refl, sym, List, [], Bool, true, false, ℕ, ◌+◌, ◌-◌, ◌≤◌, zero-add, arith, length, take, drop, drop-drop, length-drop}
use Rattle.std.specs.Prelude.{Ok, Err}
use Rattle.codec.specs.declared.DecodeError.{DecodeError}
use Rattle.codec.specs.Answers.{Answer, accepted, refused, Gives}
use Rattle.codec.specs.Reader.{shift, named, guard, mapped}
use Rattle.codec.proofs.Answers.{later_accepted, later_refused}
use Rattle.codec.proofs.Lending.{to_end}
use Rattle.path.specs.Record.{Path, path_from}
use Rattle.path.specs.Limits.{limits}
use Rattle.path_suffix.specs.declared.Sizes.{Sizes}
use Rattle.path_suffix.specs.Suffix.{sizes_from, read_sizes, read_components, read_suffix}
use Rattle.path_suffix_decode.specs.After.{read_more}
use Rattle.path_suffix_decode.proofs.Exits.{sizes_inside}
use Rattle.path_suffix_decode.proofs.Within.{more_bounded}
use Rattle.path_codec.specs.Plain.{read_path}

module _ (canonic : Bool) (s : List ℕ) (i : ℕ) where
  pub path_refused : (k : ℕ) → refused k ≡ read_sizes canonic (drop i s) → refused k ≡ read_path canonic (drop i s)
  unfolding read_path read_suffix
  path_refused k e = rw (← e)

  path_more : (total count n : ℕ) → read_sizes canonic (drop i s) ≡ accepted (sizes_from total count) n
      → read_path canonic (drop i s) ≡ shift n (read_more canonic [] total count (drop (i + n) s))
  unfolding read_path read_suffix read_more
  path_more total count n e = rw (e, drop-drop, zero-add total, zero-add count) (go (limits total count))
    where
      parts : (x : Answer (List (List ℕ))) → named path_from (shift n x) ≡ shift n (named path_from x)
      parts (accepted cs j) = refl
      parts (refused k) = refl

      go : (t : Bool) → named path_from (shift n (guard t (read_components canonic count 0 total) (drop (i + n) s))) ≡ shift n (guard t (mapped path_from (read_components canonic count 0 total)) (drop (i + n) s))
      go true = parts (read_components canonic count 0 total (drop (i + n) s))
      go false = refl

  -- sizes that were read, and what is said of the components after them
  module _ (h : Sizes) (n : ℕ) (sizes : accepted h n ≡ read_sizes canonic (drop i s)) where
    pub rest_inside : i + n ≤ length s
    rest_inside = sizes_inside canonic s i h n (sym sizes)

    module _ {out : Path} where
      pub path_stopped : (e : DecodeError) → Gives (path_from []) (Err e) out (read_more canonic [] h.total h.count (take (length s - (i + n)) (drop (i + n) s))) → Gives (path_from []) (Err e) out (read_path canonic (drop i s))
      path_stopped e g = rw (path_more h.total h.count n (sym sizes)) (later_refused n e (rw to_end at g))

      module _ (m : ℕ) (g : Gives (path_from []) (Ok m) out (read_more canonic [] h.total h.count (take (length s - (i + n)) (drop (i + n) s)))) where
        pub path_read : Gives (path_from []) (Ok (n + m)) out (read_path canonic (drop i s))
        path_read = rw (path_more h.total h.count n (sym sizes)) (later_accepted n m (rw to_end at g))

        pub path_inside : i + (n + m) ≤ length s
        path_inside = omega (arith, rest_inside, (more_bounded canonic [] h.total h.count).bound (drop (i + n) s) _ m (sym (rw to_end at g.answer)), length-drop (i + n) s)
