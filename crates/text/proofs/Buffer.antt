-- Laws of bytes written into a buffer from a place on: by single stores, and one thing after another.
use Rattle.codec.proofs.Prelude.{put_mid, ◌≡◌, refl, sym, ap, ◌∙◌, List, [], ◌∷◌, ◌++◌, append_assoc, ℕ, suc, ◌+◌, ◌≤◌, ◌<◌, add-one, arith, le-leb, lt-leb, length, take, drop, set, length-append, length-drop, take-append-drop, drop-drop, drop-set-lt, take-suc-set, length-take-le}
use Rattle.codec.specs.Format.{over}
use Rattle.codec.proofs.Lending.{over_turn}
use Rattle.text.specs.Buffer.{over_at, put_at, place_after}
use Rattle.text.proofs.Written.{Wrote}

-- ---- stores
pub over_at_start : (bs l : List ℕ) → over_at 0 bs l ≡ over bs l
unfolding over_at
over_at_start bs l = refl

pub over_at_none : (at : ℕ) (l : List ℕ) → over_at at [] l ≡ l
unfolding over_at
over_at_none at l = take-append-drop at l

-- one byte stored, the others still to be written
pub over_at_next : (at b : ℕ) (bs l : List ℕ) → at < length l → over_at at (b ∷ bs) l ≡ over_at (at + 1) bs (set l at b)
unfolding over_at
over_at_next at b bs l h =
    let e : at + suc (length bs) ≡ suc at + length bs = omega arith in
    rw (add-one at, take-suc-set l at b h, drop-set-lt (suc at) l at b (omega arith), drop-drop (suc (length bs)) at l, drop-drop (length bs) (suc at) l, e)
    (sym (append_assoc (take at l) (b ∷ []) (bs ++ drop (suc at + length bs) l)))

pub over_at_long : (at : ℕ) (bs l : List ℕ) → at + length bs ≤ length l → length (over_at at bs l) ≡ length l
unfolding over_at
over_at_long at bs l h = rw (length-append, length-append, length-drop, length-drop, length-take-le at l (omega arith)) (omega arith)

-- first a, then b after it
pub over_at_then : (at : ℕ) (a b l : List ℕ) → at ≤ length l → over_at (at + length a) b (over_at at a l) ≡ over_at at (a ++ b) l
unfolding over_at
over_at_then at a b l h = sym (over_turn l a b at h)

-- a copy keeps the length
pub put_mid_long : (at k : ℕ) (bs l : List ℕ) → k ≡ length bs → at + k ≤ length l → length (put_mid at k l bs) ≡ length l
unfolding over_at
put_mid_long at k bs l e h = rw e (over_at_long at bs l (omega arith))

-- ---- whether bytes fit
module _ (at : ℕ) (bs l : List ℕ) where
  pub place_after_fits : at + length bs ≤ length l → place_after at bs l ≡ at + length bs
  unfolding place_after
  place_after_fits h = rw (le-leb _ _ h)

  pub place_after_full : length l < at + length bs → place_after at bs l ≡ at
  unfolding place_after
  place_after_full h = rw (lt-leb _ _ h)

  pub put_at-over_at : at + length bs ≤ length l → put_at at bs l ≡ over_at at bs l
  unfolding put_at
  put_at-over_at h = rw (le-leb _ _ h)

  pub put_at_full : length l < at + length bs → put_at at bs l ≡ l
  unfolding put_at
  put_at_full h = rw (lt-leb _ _ h)

  -- what a copy to a part of the buffer leaves
  pub put_mid-over_at : (k : ℕ) → k ≡ length bs → put_mid at k l bs ≡ over_at at bs l
  unfolding over_at
  put_mid-over_at k e = rw e

  pub put_at_fits : at + length bs ≤ length l → (at + length bs ≡ place_after at bs l) × (over_at at bs l ≡ put_at at bs l)
  put_at_fits h = (sym (place_after_fits h), sym (put_at-over_at h))

pub ruleset puts = (place_after_fits, place_after_full, put_at-over_at, put_at_full, put_mid-over_at, put_mid_long)

-- ---- puts one after another, in a buffer that has room for all
pub wrote_first : (l : List ℕ) (at : ℕ) (b l' : List ℕ) (p k : ℕ) → p ≡ place_after at b l → l' ≡ put_at at b l → length b ≤ k → at + k ≤ length l → Wrote l at b l' p k
wrote_first l at b l' p k e n few h =
    let f = put_at_fits at b l (omega arith) in
    record { place = e ∙ sym f.0; buffer = n ∙ sym f.1; few = few }

pub wrote_long : (l : List ℕ) (at : ℕ) (a l' : List ℕ) (p m : ℕ) → Wrote l at a l' p m → at + m ≤ length l → length l' ≡ length l
wrote_long l at a l' p m w h = ap length w.buffer ∙ over_at_long at a l (omega (arith, w.few))

-- what is written next is written after it
pub wrote_rest : (l : List ℕ) (at : ℕ) (a b l' : List ℕ) (p m : ℕ) → Wrote l at a l' p m → at ≤ length l → over_at p b l' ≡ over_at at (a ++ b) l
wrote_rest l at a b l' p m w h = rw (w.buffer, w.place) (over_at_then at a b l h)

pub wrote_next : (l : List ℕ) (at : ℕ) (a b l' l'' : List ℕ) (p q m k : ℕ) → Wrote l at a l' p m → q ≡ place_after p b l' → l'' ≡ put_at p b l' → length b ≤ k → at + (m + k) ≤ length l
    → Wrote l at (a ++ b) l'' q (m + k)
wrote_next l at a b l' l'' p q m k w e n few h =
    let wf = w.few in
    let long : length l' ≡ length l = wrote_long l at a l' p m w (omega arith) in
    let wp = w.place in
    let f = put_at_fits p b l' (omega (arith, long)) in
    record {
      place = e ∙ sym f.0 ∙ rw (length-append a b, wp) (omega arith);
      buffer = n ∙ sym f.1 ∙ wrote_rest l at a b l' p m w (omega arith);
      few = rw (length-append a b) (omega arith);
    }
