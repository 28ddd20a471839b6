-- Reading into a lent record: what the definitions answer at each exit of the code.
use Rattle.codec.proofs.Prelude.{◌≡◌, refl, sym, ap, ◌∙◌, List, [], ◌∷◌, ◌++◌, append-nil, Bool, true, false, true≢false, ◌&&◌, ℕ, ◌+◌, ◌-◌, ◌≤◌, ◌<◌, arith, leb, leb-true, le-leb, lt-leb, ne_eqb, length, take, replicate, length-append}
use Rattle.std.specs.Prelude.{Result, Ok, Err, is_err}
use Rattle.codec.specs.declared.DecodeError.{DecodeError}
use Rattle.codec.specs.declared.DecodeError.TheVariants as decoding
use Rattle.codec.specs.Answers.{Answer, AllBytes, accepted, refused, decode_number, answer_beside, Gives}
use Rattle.codec.specs.Format.{refused_value, verdict_by}
use Rattle.codec.proofs.Answers.{gives_refused}
use Rattle.codec.proofs.Lawful.{verdict_allowed}
use Rattle.codec.specs.Reader.{named, guard, mapped}
use Rattle.codec.specs.Reads.{Bounded}
use Rattle.codec.proofs.Bounded.{formed_bounded, guard_bounded, mapped_bounded}
use Rattle.path.specs.Record.{Path, components_of, path_from, sized}
use Rattle.path.specs.declared.PathError.{PathError}
use Rattle.path.specs.declared.PathBuilder.{PathBuilder}
use Rattle.path.specs.Limits.{max_component_length, max_component_count, max_path_length, total_of, limits}
use Rattle.path.specs.Flat.{path_size, path_flat, path_in}
use Rattle.path.specs.Answers.{path_number}
use Rattle.path.specs.Builder.{built, built_from, Prefixes}
use Rattle.path.proofs.Limits.{limits_of, limits_total, limits_count, total_append}
use Rattle.path.proofs.Components.{sized_formed, prefix_count, start_small}
use Rattle.path.proofs.Growing.{flat_in, flat_empty, in_empty, built_total, built_count, built_flat, built_components}
use Rattle.path_suffix.specs.Suffix.{read_last, read_components}
use Rattle.path_suffix.proofs.Components.{components_bounded}
use Rattle.path_suffix.proofs.Yields.{components_yields}
use Rattle.path_suffix_decode.specs.After.{read_more, read_after}
use Rattle.path_suffix_decode.specs.inside.Components.{Ready, read_into, read_within, last_into}

-- ---- the last component
pub last_there : (cs : List (List ℕ)) (used total : ℕ) (m : List ℕ) → used ≤ total → total - used ≤ max_component_length → total - used ≤ length m
    → last_into cs used total m ≡ accepted (path_flat (path_from (cs ++ (take (total - used) m ∷ [])))) (total - used)
unfolding last_into read_last
last_there cs used total m h short there = rw (le-leb used total h, le-leb (total - used) max_component_length short, le-leb (total - used) (length m) there)

-- ---- none
module _ (canonic : Bool) (count total : ℕ) (m : List ℕ) where
  pub into_none : {b : PathBuilder} {s : List ℕ} → count ≡ 0 → total ≡ 0 → Ready b s count total → accepted s 0 ≡ read_into canonic (components_of (path_in s)) count total m
  unfolding read_into read_components
  into_none {b} {s} none e r =
      let cs = components_of (path_in s) in
      rw (none, e) (sym (ap (λ (x : List ℕ). accepted x 0) (ap (λ (x : List (List ℕ)). path_flat (path_from x)) (append-nil cs) ∙ sym (built_flat cs r.made))))

  pub into_over : (cs : List (List ℕ)) → count ≡ 0 → (total ≡ 0 → ⊥) → read_into canonic cs count total m ≡ refused 2
  unfolding read_into read_components
  into_over cs none h = rw (none, ne_eqb 0 total (λ e. h (sym e)))

-- ---- the limits
module _ (canonic : Bool) (b : PathBuilder) (cs : List (List ℕ)) (total count : ℕ) (m : List ℕ) where
  pub within_long : max_path_length < b.total + total → read_within canonic b cs total count m ≡ refused 2
  unfolding read_within
  within_long h = rw (lt-leb (b.total + total) max_path_length h)

  module _ (fits : b.total + total ≤ max_path_length) where
    pub within_many : max_component_count < b.count + count → read_within canonic b cs total count m ≡ refused 2
    unfolding read_within
    within_many h = rw (le-leb (b.total + total) max_path_length fits, lt-leb (b.count + count) max_component_count h)

    pub within_in : b.count + count ≤ max_component_count → read_within canonic b cs total count m ≡ read_into canonic cs count total m
    unfolding read_within
    within_in few = rw (limits_of (b.total + total) (b.count + count) fits few)

-- ---- what stands in the record then
module _ (canonic : Bool) {b : PathBuilder} {s : List ℕ} (r : Ready b s 0 0) (total count : ℕ) (m : List ℕ) where
  abbrev there : List (List ℕ)
  there = components_of (path_in s)

  by_components : read_within canonic b there total count m ≡ guard (limits (total_of there + total) (length there + count)) (read_into canonic there count total) m
  unfolding read_within
  by_components = rw (built_total there r.made, built_count there r.made)

  pub more_refused : (k : ℕ) → refused k ≡ read_within canonic b there total count m → read_more canonic there total count m ≡ refused k
  unfolding read_more read_into
  more_refused k e = go (limits (total_of there + total) (length there + count)) (e ∙ by_components)
    where
      parts : (x : Answer (List (List ℕ))) → refused k ≡ named (λ ds. path_flat (path_from (there ++ ds))) x → named (λ ds. path_from (there ++ ds)) x ≡ refused k
      parts (accepted ds j) h = let z : ◌≡◌ {A = ℕ} 0 1 = cc in absurd (omega arith)
      parts (refused j) h = cc

      go : (t : Bool) → refused k ≡ guard t (mapped (λ ds. path_flat (path_from (there ++ ds))) (read_components canonic count 0 total)) m
          → guard t (mapped (λ ds. path_from (there ++ ds)) (read_components canonic count 0 total)) m ≡ refused k
      go true h = parts (read_components canonic count 0 total m) h
      go false h = cc

  pub more_accepted : AllBytes m → (left : List ℕ) (k : ℕ) → accepted left k ≡ read_within canonic b there total count m → read_more canonic there total count m ≡ accepted (path_in left) k
  unfolding read_more read_into
  more_accepted small left k e = go (limits (total_of there + total) (length there + count)) refl (e ∙ by_components)
    where
      parts : limits (total_of there + total) (length there + count) ≡ true → (x : Answer (List (List ℕ))) → read_components canonic count 0 total m ≡ x
          → accepted left k ≡ named (λ ds. path_flat (path_from (there ++ ds))) x → named (λ ds. path_from (there ++ ds)) x ≡ accepted (path_in left) k
      parts within (accepted ds j) f h =
          let n : j ≡ k = cc in
          let same : left ≡ path_flat (path_from (there ++ ds)) = cc in
          let y = (components_yields canonic count 0 total).holds m ds j small f in
          let fits : total_of (there ++ ds) ≤ max_path_length = omega (arith, total_append there ds, y.sum, limits_total (total_of there + total) (length there + count) within) in
          let few : length (there ++ ds) ≤ max_component_count = omega (arith, length-append there ds, y.count, limits_count (total_of there + total) (length there + count) within) in
          rw (n, same, flat_in (there ++ ds) few fits)
      parts within (refused j) f h = let z : ◌≡◌ {A = ℕ} 0 1 = cc in absurd (omega arith)

      go : (t : Bool) → limits (total_of there + total) (length there + count) ≡ t → accepted left k ≡ guard t (mapped (λ ds. path_flat (path_from (there ++ ds))) (read_components canonic count 0 total)) m
          → guard t (mapped (λ ds. path_from (there ++ ds)) (read_components canonic count 0 total)) m ≡ accepted (path_in left) k
      go true within h = parts within (read_components canonic count 0 total m) refl h
      go false within h = let z : ◌≡◌ {A = ℕ} 0 1 = cc in absurd (omega arith)

  -- a record that is cleared beside a refusal
  pub more_told : (x : Result ℕ DecodeError) (left : List ℕ) {cleared : List ℕ} → answer_beside x left ≡ read_within canonic b there total count m → cleared ≡ replicate path_size 0 → true ≡ is_err x → Gives (path_from []) x (path_in cleared) (read_more canonic there total count m)
  more_told (Ok n) left told e h = absurd (true≢false h)
  more_told (Err e) left told c h = rw (c, in_empty) (gives_refused e (sym (more_refused (decode_number e) told)))

-- a builder of components, as the reader takes it
pub ready_from : {b : PathBuilder} {s : List ℕ} (cs : List (List ℕ)) → length cs ≤ max_component_count → total_of cs ≤ max_path_length → built b s ≡ built_from cs → Ready b s 0 0
ready_from {b} {s} cs few fits is = record {
  made = is ∙ ap built_from (sym (built_components cs is few fits));
  few = omega (arith, built_count cs is);
  fits = omega (arith, built_total cs is);
}

-- ---- after the first components of a path
module _ (canonic : Bool) (p : Path) (k total count : ℕ) (m : List ℕ) where
  pub after_refused : (e : PathError) {left : List ℕ} → Prefixes p k (Err e) left → Gives (path_from []) (Err decoding.Malformed) (path_in left) (read_after canonic p k total count m)
  unfolding read_after
  after_refused e g = rw (g.same, ← flat_empty, in_empty, not_both (sized p) (leb k p.count) g.answer) (gives_refused decoding.Malformed refl)
    where
      not_both : (formed inside : Bool) → refused_value (path_number e) ≡ verdict_by formed inside → (formed && inside) ≡ false
      not_both false i e = refl
      not_both true false e = refl
      not_both true true e = let z : ◌≡◌ {A = ℕ} 0 1 = cc in absurd (omega arith)

  module _ (b : PathBuilder) {left : List ℕ} (g : Prefixes p k (Ok b) left) where
    leads : (sized p ≡ true) × (leb k p.count ≡ true)
    leads = verdict_allowed (sized p) (leb k p.count) (sym g.answer)

    few : length (take k (components_of p)) ≤ max_component_count
    few = let f = sized_formed leads.0 in let h = leb-true k p.count leads.1 in omega (arith, prefix_count p f k h, f.well.count)

    fits : total_of (take k (components_of p)) ≤ max_path_length
    fits = start_small p (sized_formed leads.0) k

    pub after_ready : Ready b left 0 0
    after_ready = ready_from (take k (components_of p)) few fits g.is

    pub after_more : read_after canonic p k total count m ≡ read_more canonic (components_of (path_in left)) total count m
    unfolding read_after
    after_more = rw (leads.0, leads.1, built_components (take k (components_of p)) g.is few fits)

pub more_bounded : (canonic : Bool) (cs : List (List ℕ)) (total count : ℕ) → Bounded (read_more canonic cs total count)
unfolding read_more
more_bounded canonic cs total count =
    guard_bounded (limits (total_of cs + total) (length cs + count)) _ (mapped_bounded (λ ds. path_from (cs ++ ds)) _ (components_bounded canonic count 0 total))

pub after_bounded : (canonic : Bool) (p : Path) (k total count : ℕ) → Bounded (read_after canonic p k total count)
unfolding read_after
after_bounded canonic p k total count = formed_bounded (sized p && leb k p.count) _ (more_bounded canonic (take k (components_of p)) total count)
