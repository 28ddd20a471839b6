-- Reading components into a lent record: the loop's invariant, its turns, and its end.
use Rattle.codec.proofs.Prelude.{◌≡◌, refl, sym, ap, ◌∙◌, List, [], ◌∷◌, ◌++◌, append_assoc, Bool, true, false, ℕ, zero, suc, ◌+◌, ◌-◌, ◌*◌, ◌≤◌, ◌<◌, add_assoc, arith, leb, leb-true, leb-false, lt-leb, length, take, drop, drop-drop, length-drop, length-append}
use Rattle.std.specs.Prelude.{Result}
use Rattle.std.specs.Result.{result_unwrap_or}
use Rattle.codec.specs.Answers.{Answer, AllBytes, accepted, refused}
use Rattle.codec.proofs.Bytes.{AllBytes-drop}
use Rattle.path_suffix.proofs.Yields.{sized_yields}
use Rattle.codec.specs.Reader.{shift, named}
use Rattle.path.specs.declared.PathBuilder.{PathBuilder}
use Rattle.path.specs.declared.PathError.{PathError}
use Rattle.path.specs.Limits.{max_component_length, max_component_count, max_path_length, total_of}
use Rattle.path.specs.Record.{components_of, path_from}
use Rattle.path.specs.Flat.{path_flat, path_in}
use Rattle.path.specs.Builder.{built, built_from, Appends}
use Rattle.path.proofs.Limits.{total_append, total_snoc}
use Rattle.path.proofs.Growing.{built_total, built_count, built_components, appends_or}
use Rattle.path_suffix.specs.Suffix.{read_sized, read_last, read_components}
use Rattle.codec.proofs.Bounded.{mapped_bounded}
use Rattle.codec.proofs.Lending.{to_end}
use Rattle.path_suffix.proofs.Components.{sized_bounded, last_bounded}
use Rattle.path_suffix_decode.specs.inside.Components.{Ready, read_into, last_into}

-- ---- components that were read, before those that are read from place at of the message on
abbrev later : Bool → ℕ → ℕ → ℕ → List (List ℕ) → ℕ → List ℕ → Answer (List (List ℕ))
later canonic left used total done at m = shift at (named (λ cs. done ++ cs) (read_components canonic left used total (drop at m)))

module _ (canonic : Bool) (total : ℕ) (done : List (List ℕ)) (at : ℕ) (m : List ℕ) (used : ℕ) where
  next_refused : (left k : ℕ) → 1 < left → read_sized canonic (drop at m) ≡ refused k → later canonic left used total done at m ≡ refused k
  unfolding read_components
  next_refused zero k h f = absurd (omega arith)
  next_refused (suc zero) k h f = absurd (omega arith)
  next_refused (suc (suc left)) k h f = rw f

  next_turn : (left : ℕ) (c : List ℕ) (j : ℕ) → 1 < left → read_sized canonic (drop at m) ≡ accepted c j
      → later canonic left used total done at m ≡ later canonic (left - 1) (used + length c) total (done ++ (c ∷ [])) (at + j) m
  unfolding read_components
  next_turn zero c j h f = absurd (omega arith)
  next_turn (suc zero) c j h f = absurd (omega arith)
  next_turn (suc (suc left)) c j h f =
      let l : suc (suc left) - 1 ≡ suc left = omega arith in
      rw (f, drop-drop, l) (go (read_components canonic (suc left) (used + length c) total (drop (at + j) m)))
    where
      go : (x : Answer (List (List ℕ))) → shift at (named (λ cs. done ++ cs) (shift j (named (λ cs. c ∷ cs) x))) ≡ shift (at + j) (named (λ cs. (done ++ (c ∷ [])) ++ cs) x)
      go (accepted cs n) = rw (append_assoc, add_assoc)
      go (refused k) = refl

last_past : (used total : ℕ) (s : List ℕ) → total < used → read_last used total s ≡ refused 2
unfolding read_last
last_past used total s h = rw (lt-leb used total h)

-- ---- the invariant: what was read stands in the record as long as its bytes are within the total
pub record Held (canonic : Bool) (m : List ℕ) (count total : ℕ) (first : List (List ℕ)) (b : PathBuilder) (s : List ℕ) (used at left : ℕ) : Type 0 where
  pub done : List (List ℕ)
  pub more : 1 ≤ left
  pub counts : length done + left ≡ count
  pub sums : total_of done ≡ used
  pub small : used + max_component_length * left ≤ max_component_length * count
  pub inside : at ≤ length m
  pub kept : used ≤ total → built b s ≡ built_from (first ++ done)
  pub still : read_components canonic count 0 total m ≡ later canonic left used total done at m

-- room for all of them
pub record Room (first : List (List ℕ)) (count total : ℕ) : Type 0 where
  pub few : length first + count ≤ max_component_count
  pub fits : total_of first + total ≤ max_path_length

pub ready_room : {b : PathBuilder} {s : List ℕ} {count total : ℕ} → Ready b s count total → Room (components_of (path_in s)) count total
ready_room {b} {s} {count} {total} r =
    let cs = components_of (path_in s) in
    record { few = omega (arith, built_count cs r.made, r.few); fits = omega (arith, built_total cs r.made, r.fits) }

module _ {canonic : Bool} {m : List ℕ} {count total : ℕ} {first : List (List ℕ)} {b : PathBuilder} {s : List ℕ} {used at left : ℕ} (h : Held canonic m count total first b s used at left) where
  pub turn_refused : (k : ℕ) → 1 < left → refused k ≡ read_sized canonic (take (length m - at) (drop at m)) → refused k ≡ read_into canonic first count total m
  unfolding read_into
  turn_refused k l e = let f = rw to_end at (sym e) in sym (ap (named (λ ds. path_flat (path_from (first ++ ds)))) (h.still ∙ next_refused canonic total h.done at m used left k l f))

  module _ (c : List ℕ) (n : ℕ) (told : accepted c n ≡ read_sized canonic (take (length m - at) (drop at m))) where
    read : read_sized canonic (drop at m) ≡ accepted c n
    read = sym (rw to_end at told)

    pub part_inside : at + n ≤ length m
    part_inside = omega (arith, h.inside, (sized_bounded canonic).bound (drop at m) c n read, length-drop at m)

    pub part_short : AllBytes m → length c ≤ max_component_length
    part_short b = ((sized_yields canonic).holds (drop at m) c n (AllBytes-drop at m b) read).short

    -- one more, which stands in the record while the total has room for it
    pub turn : Room first count total → 1 < left → AllBytes m → (g : Result PathBuilder PathError) {to : List ℕ} → Appends b c s g to
        → Held canonic m count total first (result_unwrap_or g b) to (used + length c) (at + n) (left - 1)
    turn room l bytes g {to} grows = let short = part_short bytes in record {
      done = h.done ++ (c ∷ []);
      more = omega arith;
      counts = simp length-append (omega (arith, h.counts));
      sums = omega (arith, total_snoc h.done c, h.sums);
      small = omega (arith, h.small, short);
      inside = part_inside;
      kept = λ within.
          appends_or (first ++ h.done) (h.kept (omega arith)) c g grows short
          (omega (arith, length-append first h.done, h.counts, room.few))
          (omega (arith, total_append first h.done, h.sums, room.fits))
          ∙ ap built_from (append_assoc first h.done (c ∷ []));
      still = h.still ∙ next_turn canonic total h.done at m used left c n l read;
    }

  module _ (room : Room first count total) where
    -- ---- after the loop: the last component
    module _ (l : left ≤ 1) (within : used ≤ total) where
      end_few : length (first ++ h.done) + 1 ≤ max_component_count
      end_few = omega (arith, length-append first h.done, h.counts, h.more, room.few)

      end_fits : total_of (first ++ h.done) + (total - used) ≤ max_path_length
      end_fits = omega (arith, total_append first h.done, h.sums, room.fits)

      end_components : components_of (path_in s) ≡ first ++ h.done
      end_components = built_components (first ++ h.done) (h.kept within) (omega (arith, end_few)) (omega (arith, end_fits))

      pub end_ready : Ready b s 1 (total - used)
      end_ready =
          let is = h.kept within in
          record {
            made = is ∙ ap built_from (sym end_components);
            few = omega (arith, built_count (first ++ h.done) is, end_few);
            fits = omega (arith, built_total (first ++ h.done) is, end_fits);
          }

    module _ (l : left ≤ 1) where
      end_last : read_into canonic first count total m ≡ shift at (last_into (components_of (path_in s)) used total (drop at m))
      unfolding read_into last_into read_components
      end_last =
          let one : left ≡ 1 = omega (arith, h.more) in
          ap (named (λ ds. path_flat (path_from (first ++ ds)))) (rw one at h.still) ∙ go (leb used total) refl
        where
          same : (x : Answer (List ℕ)) → named (λ ds. path_flat (path_from (first ++ ds))) (shift at (named (λ cs. h.done ++ cs) (named (λ c. c ∷ []) x))) ≡ shift at (named (λ c. path_flat (path_from ((first ++ h.done) ++ (c ∷ [])))) x)
          same (accepted c k) = rw append_assoc
          same (refused k) = refl

          go : (t : Bool) → leb used total ≡ t
              → named (λ ds. path_flat (path_from (first ++ ds))) (later canonic 1 used total h.done at m) ≡ shift at (named (λ c. path_flat (path_from (components_of (path_in s) ++ (c ∷ [])))) (read_last used total (drop at m)))
          go true e = rw (end_components l (leb-true used total e)) (same (read_last used total (drop at m)))
          go false e = rw (last_past used total (drop at m) (leb-false used total e))

      -- what is said of the last component, as the code takes the rest of the message
      pub end_said : {x : Answer (List ℕ)} → x ≡ last_into (components_of (path_in s)) used total (take (length m - at) (drop at m)) → shift at x ≡ read_into canonic first count total m
      end_said e = rw to_end at (ap (shift at) e) ∙ sym end_last

      pub end_inside : {out : List ℕ} {n : ℕ} → accepted out n ≡ last_into (components_of (path_in s)) used total (take (length m - at) (drop at m)) → at + n ≤ length m
      unfolding last_into
      end_inside {out} {n} e = omega (arith, h.inside, (mapped_bounded _ _ (last_bounded used total)).bound (drop at m) out n (sym (rw to_end at e)), length-drop at m)
