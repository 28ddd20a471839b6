-- What the writers' definitions say at each step of the code.
use Rattle.codec.proofs.Prelude.{◌≡◌, refl, sym, ap, ◌∙◌, List, ◌++◌, append_assoc, append-nil, true, false, ◌&&◌, ℕ, ◌+◌, ◌*◌, ◌-◌, ◌≤◌, arith, put_mid, length, take, drop, length-append, length-drop}
use Rattle.std.specs.Prelude.{Option, Some, None, IsSome, Result, Ok}
use Rattle.codec.specs.declared.EncodeError.{EncodeError}
use Rattle.range_paths.specs.declared.NearPath.{NearPath}
use Rattle.codec.specs.Format.{Format, allowed, refused_value, over, put_buffer, WritesInto}
use Rattle.codec.proofs.Lending.{put_done, put_over, over_then, to_end, put_end}
use Rattle.codec.proofs.Tests.{and_left, and_right}
use Rattle.path.specs.Record.{Path, components_of, sized}
use Rattle.codec.specs.Answers.{said, unsaid}
use Rattle.path.proofs.Verdicts.{said_known, unsaid_known}
use Rattle.path_suffix.specs.inside.Lengths.{max_against_length}
use Rattle.path_relative.specs.Records.{shared_by}
use Rattle.range_3d.specs.Record.{Range3d, paths_of, well_formed_range3d}
use Rattle.range_3d.specs.inside.Sizes.{sized_range3d}
use Rattle.range_3d.specs.declared.Range.{Range}
use Rattle.range_3d.specs.Range3d.{end_named, open_end}
use Rattle.range_3d.proofs.Record.{well_sized_range}
use Rattle.range_subspaces.specs.Subspaces.{subspaces_bytes}
use Rattle.range_paths.specs.declared.MeasuredPaths.{MeasuredPaths}
use Rattle.range_paths.specs.Paths.{end_from_start, sides_of}
use Rattle.range_paths.specs.Records.{near_of, measure_of, measure_in}
use Rattle.range_paths.specs.inside.Writing.{end_after, both_bytes, EndShares, Shares}
use Rattle.range_paths.proofs.Writing.{told_is, told_shares, told_bytes, told_long, told_short}
use Rattle.range_times.specs.Times.{times_bytes}
use Rattle.range_header.specs.Header.{header_length}
use Rattle.range3d_range3d.specs.Range.{header_of, range_bytes}
use Rattle.range3d_range3d.specs.Records.{against_range}
use Rattle.range3d_range3d.specs.inside.Writing.{measure_range, end_near, head_with, measured_range}

over_long : (bs l : List ℕ) → length bs ≤ length l → length (over bs l) ≡ length l
over_long bs l h = length-append bs (drop (length bs) l) ∙ omega (arith, length-drop (length bs) l)

-- bytes after those that stand already at the start, in a part that goes to the end
module _ (l bs cs x : List ℕ) (n : ℕ) (there : x ≡ over bs l) (long : n ≡ length bs) where
  pub over_next : (ys : List ℕ) → ys ≡ over cs (take (length x - n) (drop n x)) → put_mid n (length x - n) x ys ≡ over (bs ++ cs) l
  over_next ys e = put_end n x ys ∙ rw (e, to_end n x, there, long) (over_then l bs cs)

  module _ (room : length bs + length cs ≤ length l) where
    pub next_inside : n + length cs ≤ length x
    next_inside = omega (arith, long, ap length there, over_long bs l (omega arith))

    pub next_room : length cs ≤ length (take (length x - n) (drop n x))
    next_room = rw (to_end n x, length-drop) (omega (arith, next_inside))

    pub put_next : (ys : List ℕ) → ys ≡ put_buffer allowed cs (take (length x - n) (drop n x)) → put_mid n (length x - n) x ys ≡ over (bs ++ cs) l
    put_next ys e = over_next ys (e ∙ put_over cs (take (length x - n) (drop n x)) next_room)

open_is : (e : Option Path) → open_end (end_named components_of e) ≡ open_end e
open_is None = refl
open_is (Some p) = refl

near_is : (r : Range (List (List ℕ))) (e : Option (List (List ℕ))) → end_near (end_named (near_of r) e) ≡ end_from_start r e
near_is r None = refl
near_is r (Some p) = refl

-- ---- what is measured
pub record Measures (r v : Range3d) (m : MeasuredPaths) : Type 0 where
  pub allows : (against_range r).check v ≡ allowed
  pub shares : Shares v.paths m
  pub long : m.len ≡ length (both_bytes v.paths m)
  pub short : m.len ≤ 2 * max_against_length
  pub bytes : (measured_range r m).encode v ≡ (against_range r).encode v

module _ (r v : Range3d) where
  pub reference_malformed : well_formed_range3d r ≡ false → unsaid 5 ≡ measure_range r v
  unfolding measure_range
  reference_malformed w = rw w

  module _ (w : well_formed_range3d r ≡ true) where
    pub range_malformed : well_formed_range3d v ≡ false → unsaid 5 ≡ measure_range r v
    unfolding measure_range
    range_malformed u = rw (w, u)

    pub measure_whole : well_formed_range3d v ≡ true → measure_in r.paths v.paths ≡ measure_range r v
    unfolding measure_in measure_range sized_range3d
    measure_whole u = rw (well_sized_range r w, well_sized_range v u, w, u)

  pub unmeasured : unsaid 5 ≡ measure_range r v → (against_range r).check v ≡ refused_value 5
  unfolding measure_range
  unmeasured e = rw (unsaid_known (well_formed_range3d r && well_formed_range3d v) (measure_of (paths_of r.paths) (paths_of v.paths)) 5 e).0

  module _ (m : MeasuredPaths) (e : said m ≡ measure_range r v) where
    formed : (well_formed_range3d r && well_formed_range3d v) ≡ true
    unfolding measure_range
    formed = (said_known (well_formed_range3d r && well_formed_range3d v) (measure_of (paths_of r.paths) (paths_of v.paths)) m e).0

    told : said m ≡ measure_in r.paths v.paths
    told = e ∙ sym (measure_whole (and_left (well_formed_range3d r) (well_formed_range3d v) formed) (and_right (well_formed_range3d r) (well_formed_range3d v) formed))

    bytes_told : (measured_range r m).encode v ≡ (against_range r).encode v
    unfolding range_bytes header_of sides_of
    bytes_told = rw (open_is v.paths.end, ← (near_is (paths_of r.paths) (paths_of v.paths).end), ← (told_bytes r.paths v.paths m told), ← (told_is r.paths v.paths m told))

    pub measures : Measures r v m
    measures = record {
      allows = rw formed;
      shares = told_shares r.paths v.paths m told;
      long = told_long r.paths v.paths m told;
      short = told_short r.paths v.paths m told;
      bytes = bytes_told;
    }

-- ---- the parts of what is written
module _ (r v : Range3d) (m : MeasuredPaths) where
  pub measured_long : (s n t : ℕ) → s ≡ length (subspaces_bytes r.subspaces v.subspaces) → n ≡ length (both_bytes v.paths m)
      → t ≡ length (times_bytes r.times v.times) → header_length + (s + (n + t)) ≡ length ((measured_range r m).encode v)
  measured_long s n t es en et =
      let subspaces = subspaces_bytes r.subspaces v.subspaces in
      let times = times_bytes r.times v.times in
      omega (arith, es, en, et, length-append subspaces (both_bytes v.paths m ++ times), length-append (both_bytes v.paths m) times)

  pub measured_parts : ((head_with r v m ++ subspaces_bytes r.subspaces v.subspaces) ++ both_bytes v.paths m)
      ++ times_bytes r.times v.times ≡ (measured_range r m).encode v
  measured_parts =
      let head = head_with r v m in
      let subspaces = subspaces_bytes r.subspaces v.subspaces in
      append_assoc (head ++ subspaces) (both_bytes v.paths m) (times_bytes r.times v.times) ∙ append_assoc head subspaces (both_bytes v.paths m ++ times_bytes r.times v.times)

pub range_long : (r v : Range3d) {m : MeasuredPaths} (k : Measures r v m) (s t : ℕ)
    → s ≡ length (subspaces_bytes r.subspaces v.subspaces) → t ≡ length (times_bytes r.times v.times)
    → header_length + (s + (m.len + t)) ≡ length ((against_range r).encode v)
range_long r v {m} k s t es et = measured_long r v m s m.len t es k.long et ∙ ap length k.bytes

-- a writer that has room, of a value that is allowed
module _ {A : Type 0} {f : Format A} {v : A} {r : Result ℕ EncodeError} {l left : List ℕ} (a : f.check v ≡ allowed) (room : length (f.encode v) ≤ length l) (w : WritesInto f v r l left) where
  pub room_done : r ≡ Ok (length (f.encode v))
  room_done = put_done (f.encode v) (length l) r room (rw a at w.answer)

  pub room_over : left ≡ over (f.encode v) l
  room_over = rw a at w.buffer ∙ put_over (f.encode v) l room

-- ---- both paths
pub end_measured : (p : Path) (n : Option NearPath) → EndShares (Some p) n → IsSome n
end_measured p None h = absurd h
end_measured p (Some n) h = refl

module _ (v : Range Path) (m : MeasuredPaths) (l : List ℕ) (x : Shares v m × (length (both_bytes v m) ≤ length l)) where
  abbrev first : List ℕ
  first = (shared_by sized m.start.shared).encode v.start

  first_room : length first ≤ length l
  first_room = omega (arith, x.1, length-append first (end_after v.end m.end))

  module _ {r : Result ℕ EncodeError} {left : List ℕ} (w : WritesInto (shared_by sized m.start.shared) v.start r l left) where
    pub first_done : r ≡ Ok (length first)
    first_done = room_done x.0.start first_room w

    first_over : left ≡ over first l
    first_over = room_over x.0.start first_room w

    all_first : v.end ≡ None → first ≡ both_bytes v m
    all_first o = rw o (sym (append-nil first))

    pub both_open : v.end ≡ None → left ≡ over (both_bytes v m) l
    both_open o = first_over ∙ ap (λ (bs : List ℕ). over bs l) (all_first o)

    module _ {p : Path} (o : v.end ≡ Some p) {n : NearPath} (q : m.end ≡ Some n) {i : ℕ} (long : i ≡ length first) where
      last_allowed : (shared_by sized n.shared).check p ≡ allowed
      last_allowed = rw (o, q) at x.0.end

      both_closed : first ++ (shared_by sized n.shared).encode p ≡ both_bytes v m
      both_closed = rw (o, q)

      both_room : length first + length ((shared_by sized n.shared).encode p) ≤ length l
      both_room = omega (arith, x.1, ap length both_closed, length-append first ((shared_by sized n.shared).encode p))

      pub first_inside : i ≤ length left
      first_inside = omega (arith, next_inside l first ((shared_by sized n.shared).encode p) left i first_over long both_room)

      last_room : length ((shared_by sized n.shared).encode p) ≤ length (take (length left - i) (drop i left))
      last_room = next_room l first ((shared_by sized n.shared).encode p) left i first_over long both_room

      module _ {z : Result ℕ EncodeError} {ys : List ℕ} (u : WritesInto (shared_by sized n.shared) p z (take (length left - i) (drop i left)) ys) where
        pub last_done : z ≡ Ok (length ((shared_by sized n.shared).encode p))
        last_done = room_done last_allowed last_room u

        pub both_over : put_mid i (length left - i) left ys ≡ over (both_bytes v m) l
        both_over = over_next l first ((shared_by sized n.shared).encode p) left i first_over long ys (room_over last_allowed last_room u) ∙ ap (λ (bs : List ℕ). over bs l) both_closed
