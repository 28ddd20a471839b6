-- Laws of printing components one after another, and how long the text is.
use Rattle.codec.proofs.Prelude.{◌≡◌, refl, sym, ap, ◌∙◌, List, [], ◌∷◌, ◌++◌, Bool, true, false, cond, ℕ, suc, ◌+◌, ◌-◌, ◌*◌, ◌≤◌, ◌<◌, arith, leb, length, take, drop, length-append, drop_of_length-le, take_at}
use Rattle.std.proofs.lemmas.Bool.Decides.{nat_tests}
use Rattle.codec.specs.Format.{over}
use Rattle.text.specs.Hex.{hex_text}
use Rattle.text.specs.Buffer.{over_at, put_at, place_after}
use Rattle.text.proofs.Written.{Wrote}
use Rattle.text.proofs.HexSteps.{hex_text_long}
use Rattle.text.proofs.Joined.{Without, without_both, hex_without}
use Rattle.text.proofs.Buffer.{over_at_start, over_at_none, wrote_first, wrote_next, wrote_long, wrote_rest}
use Rattle.path.specs.Record.{Path, components_of, well_formed, length_at, start_at}
use Rattle.path.specs.Limits.{max_component_count, max_path_length, total_of}
use Rattle.path.proofs.Components.{Formed, bytes_at, count_is, total_small, next_start, component}
use Rattle.path_text.specs.PathText.{max_path_text, max_tail_text, tail_text, path_text, path_text_of}

-- ---- how long
tail_long : (cs : List (List ℕ)) → length (tail_text cs) ≡ length cs + 2 * total_of cs
unfolding tail_text
tail_long [] = refl
tail_long (c ∷ cs) = rw length-append (omega (arith, hex_text_long c, tail_long cs))

pub tail_few : (cs : List (List ℕ)) → length cs ≤ max_component_count → total_of cs ≤ max_path_length → length (tail_text cs) ≤ max_tail_text
tail_few cs n t = omega (arith, tail_long cs)

pub path_few : (cs : List (List ℕ)) → length cs ≤ max_component_count → total_of cs ≤ max_path_length → length (path_text cs) ≤ max_path_text
unfolding path_text
path_few [] n t = omega arith
path_few (c ∷ cs) n t = rw length-append (omega (arith, hex_text_long c, tail_long cs))

-- ---- there is no tab
tail_without : (cs : List (List ℕ)) → Without 9 (tail_text cs)
unfolding tail_text
tail_without [] = tt
tail_without (c ∷ cs) = (refl, without_both 9 (hex_text c) (tail_text cs) (hex_without 9 (omega arith) c) (tail_without cs))

pub text_without : (cs : List (List ℕ)) → Without 9 (path_text cs)
unfolding path_text
text_without [] = (refl, tt)
text_without (c ∷ cs) = without_both 9 (hex_text c) (tail_text cs) (hex_without 9 (omega arith) c) (tail_without cs)

-- ---- the components that are left
pub tail_next : (p : Path) (f : Formed p) (i : ℕ) → i < p.count → tail_text (drop i (components_of p)) ≡ (47 ∷ hex_text (bytes_at p i)) ++ tail_text (drop (i + 1) (components_of p))
unfolding tail_text
tail_next p f i h = rw (component p f i h)

pub tail_end : (p : Path) → Formed p → (i : ℕ) → p.count ≤ i → tail_text (drop i (components_of p)) ≡ []
unfolding tail_text
tail_end p f i h =
    let l : length (components_of p) ≤ i = omega (arith, count_is p f) in
    rw (drop_of_length-le (components_of p) l)

-- ---- one component more, after a `/`
module _ (l l1 l2 : List ℕ) (place slash q : ℕ) (c rest : List ℕ) (fit : place + length ((47 ∷ hex_text c) ++ rest) ≤ length l)
    (e1 : slash ≡ place_after place (47 ∷ []) l) (n1 : l1 ≡ put_at place (47 ∷ []) l) (e2 : q ≡ place_after slash (hex_text c) l1) (n2 : l2 ≡ put_at slash (hex_text c) l1) where
  turn_fit : place + (1 + length (hex_text c)) ≤ length l
  turn_fit = omega (arith, fit, length-append (47 ∷ hex_text c) rest)

  turn : Wrote l place (47 ∷ hex_text c) l2 q (1 + length (hex_text c))
  turn =
      let f = turn_fit in
      let w = wrote_first l place (47 ∷ []) l1 slash 1 e1 n1 (omega arith) (omega (arith, f)) in
      wrote_next l place (47 ∷ []) (hex_text c) l1 l2 slash q 1 (length (hex_text c)) w e2 n2 (omega arith) f

  pub turn_place : q + length rest ≡ place + length ((47 ∷ hex_text c) ++ rest)
  turn_place = rw (length-append (47 ∷ hex_text c) rest) (omega (arith, turn.place))

  pub turn_long : length l2 ≡ length l
  turn_long = wrote_long l place (47 ∷ hex_text c) l2 q (1 + length (hex_text c)) turn turn_fit

  pub turn_over : over_at place ((47 ∷ hex_text c) ++ rest) l ≡ over_at q rest l2
  turn_over = sym (wrote_rest l place (47 ∷ hex_text c) rest l2 q (1 + length (hex_text c)) turn (omega (arith, turn_fit)))

-- ---- the loop: the first i components of p were printed before `place`, and printing the others there prints all; the buffer, which was out₀, is out
pub record Filling (p : Path) (out₀ out : List ℕ) (at from i : ℕ) : Type 0 where
  pub start : from ≡ start_at p i
  pub long : length out ≡ length out₀
  pub place : at + length (tail_text (drop i (components_of p))) ≡ length (tail_text (components_of p))
  pub printed : over (tail_text (components_of p)) out₀ ≡ over_at at (tail_text (drop i (components_of p))) out

pub filling_none : (p : Path) (out : List ℕ) → Filling p out out 0 0 0
filling_none p out = record { start = refl; long = refl; place = omega arith; printed = sym (over_at_start _ _) }

module _ {p : Path} (f : Formed p) {out₀ out : List ℕ} {place from i : ℕ} (l : Filling p out₀ out place from i) where
  few : length (tail_text (components_of p)) ≤ max_tail_text
  few = tail_few (components_of p) (omega (arith, count_is p f, f.well.count)) (total_small p f)

  pub filling_next : {out1 out2 : List ℕ} {slash q to : ℕ} → i < p.count → max_tail_text ≤ length out₀ → to ≡ from + length_at p i
      → slash ≡ place_after place (47 ∷ []) out → out1 ≡ put_at place (47 ∷ []) out
      → q ≡ place_after slash (hex_text (bytes_at p i)) out1 → out2 ≡ put_at slash (hex_text (bytes_at p i)) out1 → Filling p out₀ out2 q to (i + 1)
  filling_next {out1} {out2} {slash} {q} {to} h room e e1 n1 e2 n2 =
      let c = bytes_at p i in
      let rest = tail_text (drop (i + 1) (components_of p)) in
      let t = tail_next p f i h in
      let fit : place + length ((47 ∷ hex_text c) ++ rest) ≤ length out = omega (arith, ap length t, l.place, l.long, few) in
      record {
        start = omega (arith, next_start p f i h, l.start);
        long = turn_long out out1 out2 place slash q c rest fit e1 n1 e2 n2 ∙ l.long;
        place = omega (arith, turn_place out out1 out2 place slash q c rest fit e1 n1 e2 n2, ap length t, l.place);
        printed = l.printed ∙ rw t (turn_over out out1 out2 place slash q c rest fit e1 n1 e2 n2);
      }

  pub filling_all : p.count ≤ i → (place ≡ length (tail_text (components_of p))) × (out ≡ over (tail_text (components_of p)) out₀) × (place ≤ max_tail_text)
  filling_all h =
      let z = tail_end p f i h in
      let n : place ≡ length (tail_text (components_of p)) = omega (arith, l.place, ap length z) in
      (n, sym (l.printed ∙ rw z (over_at_none place out)), omega (arith, n, few))

-- ---- the bytes that are put, without the first `/`
pub part_text : (t l : List ℕ) → take (length t - 1) (drop 1 (over t l)) ≡ drop 1 t
part_text [] l = refl
part_text (b ∷ t) l =
    let e : suc (length t) - 1 ≡ length t = omega arith in
    rw e (take_at t _ (length t) refl)

pub place_after-none : (at : ℕ) (l : List ℕ) → place_after at [] l ≡ at
unfolding place_after
place_after-none at l = grind (arith, nat_tests)

pub put_at-none : (at : ℕ) (l : List ℕ) → put_at at [] l ≡ l
unfolding put_at
put_at-none at l = rw over_at_none (same (leb (at + 0) (length l)))
  where
    same : (b : Bool) → cond b l l ≡ l
    same true = refl
    same false = refl

-- ---- the text of a path's record: that with a `/` before each component, without the first; `-` where there is none
module _ (p : Path) where
  pub ill_path : well_formed p ≡ false → path_text_of p ≡ []
  unfolding path_text_of
  ill_path e = rw e

  pub no_path : well_formed p ≡ true → length (tail_text (components_of p)) ≡ 0 → path_text_of p ≡ 45 ∷ []
  unfolding path_text_of tail_text path_text
  no_path e none = rw e (dash (components_of p) none)
    where
      dash : (cs : List (List ℕ)) → length (tail_text cs) ≡ 0 → path_text cs ≡ 45 ∷ []
      dash [] none = refl
      dash (c ∷ cs) none = absurd (omega arith)

  pub some_path : well_formed p ≡ true → 0 < length (tail_text (components_of p)) → path_text_of p ≡ drop 1 (tail_text (components_of p))
  unfolding path_text_of tail_text path_text
  some_path e some = rw e (rest (components_of p) some)
    where
      rest : (cs : List (List ℕ)) → 0 < length (tail_text cs) → path_text cs ≡ drop 1 (tail_text cs)
      rest [] some = absurd (omega arith)
      rest (c ∷ cs) some = refl

pub ruleset putting = (place_after-none, put_at-none, ill_path, no_path)
