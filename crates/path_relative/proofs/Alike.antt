-- Paths whose first k components are the same, as one that was read against a reference and it are: the component after them decides whether they share more.
use lib.Pointwise.{pointwise}
use Rattle.codec.proofs.Prelude.{◌≡◌, refl, sym, ap, ◌∙◌, List, [], ◌∷◌, ◌++◌, Bool, true, false, cond, not, ℕ, suc, ◌+◌, ◌-◌, ◌≤◌, ◌<◌, arith, eqb, le-leb, eq-eqb, ne_eqb, length, take, drop, take-append-drop, take_at, length-append}
use Rattle.codec.specs.Bytes.{same_bytes}
use Rattle.codec.proofs.SameBytes.{same_pointwise}
use Rattle.codec.specs.Reads.{Yields}
use Rattle.codec.proofs.Yields.{yields_as, guard_yields, mapped_yields}
use Rattle.path.specs.Record.{Path, components_of, path_from, sized, length_at, start_at}
use Rattle.path.specs.inside.Sizes.{Leads}
use Rattle.path.specs.Limits.{max_component_count, max_path_length, total_of, limits}
use Rattle.path.specs.Prefix.{shared}
use Rattle.path.proofs.Record.{components_of_lem}
use Rattle.path.proofs.Limits.{limits_total, limits_count, total_append}
use Rattle.path.proofs.Components.{Formed, sized_formed, bytes_at, count_is, prefix_count, component, part_bytes}
use Rattle.path.proofs.Compare.{Together, left_ends, right_ends, lengths_differ}
use Rattle.path.proofs.Growing.{sized_from}
use Rattle.path_suffix.proofs.Yields.{components_yields}
use Rattle.path_suffix_decode.specs.After.{read_after, read_more}
use Rattle.path_relative.specs.inside.Reading.{Alike}
use Rattle.path_relative.proofs.Leading.{shared_after}

shared_split : (r p : List (List ℕ)) (k : ℕ) → k ≤ length r → take k r ≡ take k p → shared r p ≡ k + shared (drop k r) (drop k p)
shared_split r p k h e = ap (shared r) (sym (take-append-drop k p) ∙ rw (← e)) ∙ shared_after r (drop k p) k h

module _ {p q : Path} {k : ℕ} (a : Alike p q k) where
  left : Formed p
  left = sized_formed a.left.fits

  right : Formed q
  right = sized_formed a.right.fits

  meet : Together p q k (start_at p k)
  meet = record {
    left = left;
    right = right;
    in_left = a.left.there;
    in_right = a.right.there;
    start_left = refl;
    start_right = ap total_of a.same;
    more = shared_split (components_of p) (components_of q) k (omega (arith, count_is p left, a.left.there)) a.same;
  }

  -- one of them has no further component, or theirs differ in length
  pub left_over : p.count ≤ k → eqb (shared (components_of p) (components_of q)) k ≡ true
  left_over h = eq-eqb _ _ (left_ends meet h)

  pub right_over : q.count ≤ k → eqb (shared (components_of p) (components_of q)) k ≡ true
  right_over h = eq-eqb _ _ (right_ends meet h)

  module _ (hp : k < p.count) (hq : k < q.count) where
    pub other_length : (length_at p k ≡ length_at q k → ⊥) → eqb (shared (components_of p) (components_of q)) k ≡ true
    unfolding length_at
    other_length ne = eq-eqb _ _ (lengths_differ meet hp hq ne)

    decides : (b : Bool) → same_bytes (bytes_at p k) (bytes_at q k) ≡ b → eqb (shared (components_of p) (components_of q)) k ≡ not b
    decides b e =
        let s : shared (components_of p) (components_of q) ≡ k + cond b (suc (shared (drop (k + 1) (components_of p)) (drop (k + 1) (components_of q)))) 0 = meet.more ∙ rw (component p left k hp, component q right k hq, e) in
        go b s
      where
        go : (b : Bool) → shared (components_of p) (components_of q) ≡ k + cond b (suc (shared (drop (k + 1) (components_of p)) (drop (k + 1) (components_of q)))) 0
            → eqb (shared (components_of p) (components_of q)) k ≡ not b
        go true s = ne_eqb (shared (components_of p) (components_of q)) k (λ z. omega (arith, z, s))
        go false s = eq-eqb (shared (components_of p) (components_of q)) k (omega (arith, s))

    -- else their bytes decide, as the code takes and compares them
    pub next_decides : (at n : ℕ) → at ≡ start_at p k → n ≡ length_at p k → n ≡ length_at q k
        → eqb (shared (components_of p) (components_of q)) k ≡ not (pointwise eqb (take (at + n - at) (drop at p.bytes)) (take (at + n - at) (drop at q.bytes)))
    next_decides at n start e f =
        let here : take (at + n - at) (drop at p.bytes) ≡ bytes_at p k = rw e (part_bytes p left k hp at start) in
        let there : take (at + n - at) (drop at q.bytes) ≡ bytes_at q k = rw f (part_bytes q right k hq at (start ∙ ap total_of a.same)) in
        rw (here, there) (decides (pointwise eqb (bytes_at p k) (bytes_at q k)) (sym (same_pointwise (bytes_at p k) (bytes_at q k))))

-- a path read after the first components of another
pub on_alike : (canonic : Bool) (p : Path) (k : ℕ) → Leads p k → (total count : ℕ) → Yields (read_after canonic p k total count) (λ q. Alike p q k)
unfolding read_after read_more
on_alike canonic p k here total count = rw (here.fits, le-leb k p.count here.there) (
    guard_yields (limits (total_of (take k (components_of p)) + total) (length (take k (components_of p)) + count)) _ _ (λ within.
    mapped_yields (λ ds. path_from (take k (components_of p) ++ ds)) _ _ (
    yields_as _ _ _ (components_yields canonic count 0 total) (λ ds y.
    let cs = take k (components_of p) in
    let long : length (take k (components_of p)) ≡ k = prefix_count p (sized_formed here.fits) k here.there in
    let fits : total_of (take k (components_of p) ++ ds) ≤ max_path_length = omega (arith, total_append cs ds, y.sum, limits_total (total_of cs + total) (length cs + count) within) in
    let few : length (take k (components_of p) ++ ds) ≤ max_component_count = omega (arith, length-append cs ds, y.count, limits_count (total_of cs + total) (length cs + count) within) in
    let is : sized (path_from (take k (components_of p) ++ ds)) ≡ true = sized_from (cs ++ ds) few fits in
    let all = components_of_lem (cs ++ ds) in
    record {
      left = here;
      right = record { fits = is; there = omega (arith, count_is (path_from (cs ++ ds)) (sized_formed is), ap length all, length-append cs ds, long) };
      same = sym (rw all (take_at cs ds k long));
    }))))
