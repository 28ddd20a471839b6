-- Bytes written after the place of those that come first, and a path of which k components are shared.
use Rattle.codec.proofs.Prelude.{◌≡◌, refl, sym, ap, ◌∙◌, List, ◌++◌, ◌+◌, ◌≤◌, ◌<◌, append_assoc, Bool, true, false, cond, ℕ, arith, leb, leb-false, length, take, drop, length-append, length-drop, take-append-drop, drop_at, drop-drop, length-take-le}
use Rattle.codec.specs.Answers.{wrote, refused_writing}
use Rattle.codec.specs.Format.{Verdict, allowed, refused_value, over, put_answer, put_buffer, write_answer, write_buffer}
use Rattle.codec.proofs.Lawful.{verdict_allowed}
use Rattle.codec.proofs.Lending.{put_refused_value, put_full, put_fits, put_refused_writing, put_wrote, put_over, wrote_not_refused_writing}
use Rattle.compact_u64.specs.Number.{standalone_bytes}
use Rattle.compact_u64.proofs.Standalone.{standalone_short}
use Rattle.path.specs.Record.{Path, components_of, sized}
use Rattle.path.proofs.Components.{Formed, sized_formed, rest_count, rest_small}
use Rattle.path_suffix.specs.inside.Lengths.{max_suffix_length, max_against_length}
use Rattle.path_suffix.specs.Suffix.{suffix_by}
use Rattle.path_suffix.proofs.Suffix.{suffix_short}
use Rattle.path_relative.specs.Records.{shared_by}

-- ---- a writing that was refused for room, and one that was written after the place of another
pub no_room : (bs : List ℕ) (room why : ℕ) → put_answer allowed bs room ≡ refused_writing why → (why ≡ 4) × (room < length bs)
unfolding put_answer
no_room bs room why e = go (leb (length bs) room) refl e
  where
    go : (b : Bool) → leb (length bs) room ≡ b → cond b (wrote (length bs)) (refused_writing 4) ≡ refused_writing why → (why ≡ 4) × (room < length bs)
    go true f g = absurd (wrote_not_refused_writing (length bs) why g)
    go false f g = (cc, leb-false (length bs) room f)

over-before : (l a b : List ℕ) → length a ≤ length l → over a (take (length a) l ++ over b (drop (length a) l)) ≡ over (a ++ b) l
over-before l a b h =
    rw (drop_at (take (length a) l) (over b (drop (length a) l)) (length a) (length-take-le (length a) l h), drop-drop, length-append) (sym (append_assoc a b (drop (length a + length b) l)))

-- bytes written after the place of those that come first, then those
module _ (first bs l : List ℕ) (a : ℕ) (ea : a ≡ length first) (h : a ≤ length l) where
  both_long : (n : ℕ) → n ≡ length bs → a + n ≡ length (first ++ bs)
  both_long n en = omega (arith, ea, en, length-append first bs)

  pub rest_refused : (why : ℕ) (ys : List ℕ) → put_answer allowed bs (length (drop a l)) ≡ refused_writing why → ys ≡ put_buffer allowed bs (drop a l)
      → (refused_writing why ≡ put_answer allowed (first ++ bs) (length l)) × (take a l ++ ys ≡ put_buffer allowed (first ++ bs) l)
  rest_refused why ys e put =
      let short = no_room bs (length (drop a l)) why e in
      let full = put_full allowed (first ++ bs) l refl _ (both_long (length bs) refl) (omega (arith, short.1, length-drop a l)) in
      let same : ys ≡ drop a l = put ∙ sym (put_refused_writing allowed bs (drop a l) why e) in
      (ap refused_writing short.0 ∙ full.0, rw same (take-append-drop a l ∙ full.1))

  pub rest_written : (n : ℕ) (ys : List ℕ) → put_answer allowed bs (length (drop a l)) ≡ wrote n → ys ≡ put_buffer allowed bs (drop a l)
      → (wrote (a + n) ≡ put_answer allowed (first ++ bs) (length l)) × (over first (take a l ++ ys) ≡ put_buffer allowed (first ++ bs) l)
  rest_written n ys e put =
      let w = put_wrote allowed bs (length (drop a l)) n e in
      let whole = put_fits allowed (first ++ bs) l refl (a + n) (both_long n w.long) (omega (arith, w.fits, length-drop a l)) in
      let there : ys ≡ over bs (drop a l) = put ∙ put_over bs (drop a l) (omega (arith, w.long, w.fits)) in
      (whole.0, rw (there, ea) (over-before l first bs (omega arith)) ∙ whole.1)

  -- whatever the verdict on their value is
  pub rest_refused_writing : (d : Verdict) (why : ℕ) (ys : List ℕ) → put_answer d bs (length (drop a l)) ≡ refused_writing why → ys ≡ put_buffer d bs (drop a l)
      → (refused_writing why ≡ put_answer d (first ++ bs) (length l)) × (take a l ++ ys ≡ put_buffer d (first ++ bs) l)
  rest_refused_writing allowed why ys e put = rest_refused why ys e put
  rest_refused_writing (refused_value k) why ys e put =
      let same : ys ≡ drop a l = put ∙ sym (put_refused_value (refused_value k) bs (drop a l) k refl).1 in
      let whole = put_refused_value (refused_value k) (first ++ bs) l k refl in
      (sym e ∙ sym (put_refused_value (refused_value k) bs (drop a l) k refl).0 ∙ whole.0, rw same (take-append-drop a l ∙ whole.1))

-- no byte changes where not even a part has room
pub short_unchanged : (d : Verdict) (bs l : List ℕ) → length l < length bs → l ≡ put_buffer d bs l
short_unchanged allowed bs l h = (put_full allowed bs l refl _ refl h).1
short_unchanged (refused_value k) bs l h = (put_refused_value (refused_value k) bs l k refl).1

-- ---- the number of shared components and the suffix after them, whatever is tested of the record
module _ (formed : Path → Bool) (p : Path) (k : ℕ) where
  pub within_by : (formed p ≡ true → Formed p) → (suffix_by formed k).check p ≡ allowed → length ((suffix_by formed k).encode p) ≤ max_suffix_length
  within_by known ok =
      let f = known (verdict_allowed (formed p) (leb k p.count) ok).0 in
      omega (arith, suffix_short (drop k (components_of p)), rest_count p f k, rest_small p f k, f.well.count)

  pub long_by : (a n : ℕ) → a ≡ length (standalone_bytes k) → n ≡ length ((suffix_by formed k).encode p) → a + n ≡ length ((shared_by formed k).encode p)
  long_by a n ea en = sym (length-append (standalone_bytes k) ((suffix_by formed k).encode p) ∙ rw (← ea, ← en))

  -- the suffix after the place of the number, then the number
  pub written_by : (l : List ℕ) (a : ℕ) → a ≡ length (standalone_bytes k) → a ≤ length l → (n : ℕ) (ys : List ℕ)
      → write_answer (suffix_by formed k) p (length (drop a l)) ≡ wrote n → ys ≡ write_buffer (suffix_by formed k) p (drop a l)
      → (wrote (a + n) ≡ write_answer (shared_by formed k) p (length l)) × (put_buffer allowed (standalone_bytes k) (take a l ++ ys) ≡ write_buffer (shared_by formed k) p l)
  written_by l a ea h n ys e put =
      let ok = (put_wrote ((suffix_by formed k).check p) ((suffix_by formed k).encode p) _ n e).allows in
      let done = rest_written (standalone_bytes k) ((suffix_by formed k).encode p) l a ea h n ys (rw ok at e) (rw ok at put) in
      let room : length (standalone_bytes k) ≤ length (take a l ++ ys) = rw (length-append, length-take-le a l h) (omega arith) in
      rw ok (done.0, put_over (standalone_bytes k) (take a l ++ ys) room ∙ done.1)

-- a path of which k components are shared takes few bytes
pub shared_short : (p : Path) (k : ℕ) → (shared_by sized k).check p ≡ allowed → length ((shared_by sized k).encode p) ≤ max_against_length
shared_short p k ok =
    omega (arith, length-append (standalone_bytes k) ((suffix_by sized k).encode p), (standalone_short k).1, within_by sized p k sized_formed ok)
