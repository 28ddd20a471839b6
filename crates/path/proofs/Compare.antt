-- Comparing two records component by component: what is known after k components that both have.
use lib.Pointwise.{pointwise}
use Rattle.codec.proofs.Prelude.{not, ◌≡◌, refl, sym, ap, ◌∙◌, List, Bool, true, false, cond, ◌&&◌, ℕ, suc, min, ◌+◌, ◌-◌, ◌≤◌, ◌<◌, arith, eqb, eq-eqb, ne_eqb, leb, leb-true, leb-false, length, take, drop, get_or, length-drop, drop_of_length-le, length-take-le}
use Rattle.path.specs.Limits.{max_path_length}
use Rattle.path.specs.Record.{Path, components_of, sized, well_formed, length_at, start_at}
use Rattle.codec.specs.Bytes.{same_bytes}
use Rattle.codec.proofs.SameBytes.{same_pointwise, different}
use Rattle.path.specs.Prefix.{shared, is_prefix, same_path}
use Rattle.codec.specs.Answers.{said}
use Rattle.path.specs.Answers.{said_if}
use Rattle.codec.proofs.Tests.{and_left, and_right}
use Rattle.path.proofs.Prefix.{shared_nil, shared_sym}
use Rattle.path.specs.Flat.{path_in, lent}
use Rattle.path.proofs.Records.{whole_in, lent_is, lent_known}
use Rattle.path.proofs.Verdicts.{said_known}
use Rattle.path.proofs.Components.{Formed, parts_formed, sized_formed, well_sized, bytes_at, count_is, next_start, ends, component}

-- ---- parts of two lists that differ
differ_long : (x y : List ℕ) (at n m : ℕ) → at + n ≤ length x → at + m ≤ length y → (n ≡ m → ⊥) → take n (drop at x) ≡ take m (drop at y) → ⊥
differ_long x y at n m hx hy ne e =
    let ex : length (take n (drop at x)) ≡ n = length-take-le n (drop at x) (rw length-drop (omega arith)) in
    let ey : length (take m (drop at y)) ≡ m = length-take-le m (drop at y) (rw length-drop (omega arith)) in
    ne (sym ex ∙ ap length e ∙ ey)

-- ---- the first k components of both are the same, and have `at` bytes
pub record Together (p q : Path) (k at : ℕ) : Type 0 where
  pub left : Formed p
  pub right : Formed q
  pub in_left : k ≤ p.count
  pub in_right : k ≤ q.count
  pub start_left : at ≡ start_at p k
  pub start_right : at ≡ start_at q k
  pub more : shared (components_of p) (components_of q) ≡ k + shared (drop k (components_of p)) (drop k (components_of q))

pub together : {p q : Path} → Formed p → Formed q → Together p q 0 0
together f g = record { left = f; right = g; in_left = omega arith; in_right = omega arith; start_left = refl; start_right = refl; more = omega arith }

module _ {p q : Path} {k at : ℕ} (t : Together p q k at) where
  no_more : shared (drop k (components_of p)) (drop k (components_of q)) ≡ 0 → shared (components_of p) (components_of q) ≡ k
  no_more e = t.more ∙ rw e (omega arith)

  -- one of the paths ends here
  pub left_ends : p.count ≤ k → shared (components_of p) (components_of q) ≡ k
  left_ends h =
      let out : length (components_of p) ≤ k = omega (arith, count_is p t.left) in
      no_more (rw (drop_of_length-le (components_of p) out))

  pub right_ends : q.count ≤ k → shared (components_of p) (components_of q) ≡ k
  right_ends h =
      let out : length (components_of q) ≤ k = omega (arith, count_is q t.right) in
      no_more (rw (drop_of_length-le (components_of q) out) (shared_nil (drop k (components_of p))))

  pub ends_here : min p.count q.count ≤ k → shared (components_of p) (components_of q) ≡ k
  ends_here h = go (leb p.count k) refl
    where
      go : (b : Bool) → leb p.count k ≡ b → shared (components_of p) (components_of q) ≡ k
      go true e = left_ends (leb-true p.count k e)
      go false e = right_ends (omega (arith, leb-false p.count k e))

  module _ (hp : k < p.count) (hq : k < q.count) where
    -- the component here, by the arrays' own elements
    pub left_inside : at + get_or p.lengths k 0 ≤ max_path_length
    unfolding length_at
    left_inside = rw t.start_left (ends p t.left k hp)

    right_inside : at + get_or q.lengths k 0 ≤ max_path_length
    unfolding length_at
    right_inside = rw t.start_right (ends q t.right k hq)

    left_bytes : bytes_at p k ≡ take (get_or p.lengths k 0) (drop at p.bytes)
    unfolding length_at
    left_bytes = rw t.start_left

    right_bytes : bytes_at q k ≡ take (get_or q.lengths k 0) (drop at q.bytes)
    unfolding length_at
    right_bytes = rw t.start_right

    step : shared (drop k (components_of p)) (drop k (components_of q))
        ≡ cond (same_bytes (bytes_at p k) (bytes_at q k)) (suc (shared (drop (k + 1) (components_of p)) (drop (k + 1) (components_of q)))) 0
    step = rw (component p t.left k hp, component q t.right k hq)

    -- it differs in length, or in a byte
    stop : (bytes_at p k ≡ bytes_at q k → ⊥) → shared (components_of p) (components_of q) ≡ k
    stop h = no_more (step ∙ rw (different _ _ h))

    pub lengths_differ : (get_or p.lengths k 0 ≡ get_or q.lengths k 0 → ⊥) → shared (components_of p) (components_of q) ≡ k
    lengths_differ ne =
        let fits-p : at + get_or p.lengths k 0 ≤ length p.bytes = omega (arith, left_inside, t.left.bytes) in
        let fits-q : at + get_or q.lengths k 0 ≤ length q.bytes = omega (arith, right_inside, t.right.bytes) in
        stop (λ e. differ_long p.bytes q.bytes at _ _ fits-p fits-q ne (sym left_bytes ∙ e ∙ right_bytes))

    -- or its bytes decide, as the code takes and compares them
    module _ (same : get_or p.lengths k 0 ≡ get_or q.lengths k 0) where
      compared : (b : Bool) → b ≡ not (pointwise eqb (take (at + get_or p.lengths k 0 - at) (drop at p.bytes)) (take (at + get_or p.lengths k 0 - at) (drop at q.bytes)))
          → same_bytes (bytes_at p k) (bytes_at q k) ≡ not b
      compared b e =
          let n : at + get_or p.lengths k 0 - at ≡ get_or p.lengths k 0 = omega arith in
          let there : bytes_at q k ≡ take (get_or p.lengths k 0) (drop at q.bytes) = right_bytes ∙ rw same in
          go (same_bytes (bytes_at p k) (bytes_at q k)) (rw (n, ← left_bytes, ← there, same_pointwise (bytes_at p k) (bytes_at q k)) at e)
        where
          go : (x : Bool) → b ≡ not x → x ≡ not b
          go true e = rw e
          go false e = rw e

      pub bytes_differ : true ≡ not (pointwise eqb (take (at + get_or p.lengths k 0 - at) (drop at p.bytes)) (take (at + get_or p.lengths k 0 - at) (drop at q.bytes)))
          → shared (components_of p) (components_of q) ≡ k
      bytes_differ e = no_more (step ∙ rw (compared true e))

      pub together_next : false ≡ not (pointwise eqb (take (at + get_or p.lengths k 0 - at) (drop at p.bytes)) (take (at + get_or p.lengths k 0 - at) (drop at q.bytes)))
          → Together p q (k + 1) (at + get_or p.lengths k 0)
      unfolding length_at
      together_next e =
          let b : same_bytes (bytes_at p k) (bytes_at q k) ≡ true = compared false e in
          let n : shared (drop k (components_of p)) (drop k (components_of q)) ≡ suc (shared (drop (k + 1) (components_of p)) (drop (k + 1) (components_of q))) = step ∙ rw b in
          record {
            left = t.left;
            right = t.right;
            in_left = omega arith;
            in_right = omega arith;
            start_left = rw t.start_left (sym (next_start p t.left k hp));
            start_right = rw (same, t.start_right) (sym (next_start q t.right k hq));
            more = t.more ∙ rw n (omega arith);
          }

-- ---- two records that were tested whole
module _ (p q : Path) (w : (well_formed p && well_formed q) ≡ true) where
  pub both_sized : (sized p && sized q) ≡ (well_formed p && well_formed q)
  both_sized = rw (well_sized p (and_left _ _ w), well_sized q (and_right (well_formed p) _ w), w)

-- the same components, from the number of those that both have
module _ (s t : List ℕ) (k : ℕ) where
  equal_said : said k ≡ said_if (well_formed (path_in s) && well_formed (path_in t)) (shared (components_of (path_in s)) (components_of (path_in t)))
      → said (eqb k (lent 0 (λ p. p.count) s) && eqb k (lent 0 (λ p. p.count) t)) ≡ said_if (well_formed (path_in s) && well_formed (path_in t)) (same_path (components_of (path_in s)) (components_of (path_in t)))
  unfolding same_path is_prefix
  equal_said e =
      let p = path_in s in
      let q = path_in t in
      let x = said_known (well_formed p && well_formed q) (shared (components_of p) (components_of q)) k e in
      let fp = parts_formed (and_left (well_formed p) (well_formed q) x.0) in
      let fq = parts_formed (and_right (well_formed p) (well_formed q) x.0) in
      let np : lent 0 (λ p. p.count) s ≡ length (components_of p) = lent_known s fp 0 (λ x. x.count) ∙ sym (count_is p fp) in
      let nq : lent 0 (λ p. p.count) t ≡ length (components_of q) = lent_known t fq 0 (λ x. x.count) ∙ sym (count_is q fq) in
      rw (x.0, shared_sym (components_of q) (components_of p), x.1, np, nq)

  -- all of the first, or not
  pub equal_told : (m : ℕ) → m ≡ lent 0 (λ p. p.count) t → k ≡ lent 0 (λ p. p.count) s → said k ≡ said_if (well_formed (path_in s) && well_formed (path_in t)) (shared (components_of (path_in s)) (components_of (path_in t)))
      → said (eqb k m) ≡ said_if (well_formed (path_in s) && well_formed (path_in t)) (same_path (components_of (path_in s)) (components_of (path_in t)))
  equal_told m n all e = rw (n, ← (equal_said e), eq-eqb k (lent 0 (λ p. p.count) s) all)

  pub unequal_told : (n : ℕ) → n ≡ lent 0 (λ p. p.count) s → (k ≡ n → ⊥) → said k ≡ said_if (well_formed (path_in s) && well_formed (path_in t)) (shared (components_of (path_in s)) (components_of (path_in t)))
      → said (eqb k n) ≡ said_if (well_formed (path_in s) && well_formed (path_in t)) (same_path (components_of (path_in s)) (components_of (path_in t)))
  unequal_told n is less e = rw (← (equal_said e), ← is, ne_eqb k n less)

-- ---- a prefix, from the number of components that both have
module _ (p q : Path) where
  pub prefix_said : (k : ℕ) → said k ≡ said_if (sized p && sized q) (shared (components_of p) (components_of q))
      → said (eqb k p.count) ≡ said_if (sized p && sized q) (is_prefix (components_of p) (components_of q))
  unfolding is_prefix
  prefix_said k e =
      let x = said_known (sized p && sized q) (shared (components_of p) (components_of q)) k e in
      rw (x.0, x.1, count_is p (sized_formed (and_left _ _ x.0)))

  -- by the count of a lent record
  pub prefix_told : (s : List ℕ) → p ≡ path_in s → (k n : ℕ) → said k ≡ said_if (sized p && sized q) (shared (components_of p) (components_of q)) → n ≡ lent 0 (λ x. x.count) s
      → said (eqb k n) ≡ said_if (sized p && sized q) (is_prefix (components_of p) (components_of q))
  prefix_told s same k n e count =
      let x = said_known (sized p && sized q) (shared (components_of p) (components_of q)) k e in
      let whole = whole_in s (rw same at (sized_formed (and_left (sized p) (sized q) x.0))) in
      let is : n ≡ p.count = count ∙ lent_is s whole 0 (λ x. x.count) ∙ rw same in
      rw is (prefix_said k e)
