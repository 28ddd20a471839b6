-- A loop that answers the whole lines of a text s one after another into a buffer, while `most` bytes of it are free.
use Rattle.codec.proofs.Prelude.{◌≡◌, refl, sym, ap, ◌∙◌, List, [], ℕ, ◌+◌, ◌-◌, ◌≤◌, arith, eqb, length, take, drop, length-append, length-drop, length-take-le}
use Rattle.codec.specs.Format.{over}
use Rattle.std.proofs.Common.{Some}
use Rattle.std.specs.List.{position}
use Rattle.text.specs.Buffer.{over_at}
use Rattle.text.proofs.Buffer.{over_at_start, over_at_none, over_at_then}
use Rattle.lines.specs.Lines.{span, answers, fitting_lines}
use Rattle.lines.proofs.Lines.{whole_next, span_none, span_next, answers_none, answers_next}
use Rattle.lines.proofs.Fitting.{fitting_turn}

module _ (f : List ℕ → List ℕ) (most : ℕ) (s out₀ : List ℕ) where
  -- the lines before `at` are answered, the answers are `put` bytes, and the buffer, which was out₀, is out
  pub record Answered (out : List ℕ) (at put : ℕ) : Type 0 where
    pub inside : at ≤ length s
    pub room : put ≤ length out
    pub kept : length out ≡ length out₀
    pub taken : span (fitting_lines f most (length out₀) s) ≡ at + span (fitting_lines f most (length out₀ - put) (drop at s))
    pub long : length (answers f (fitting_lines f most (length out₀) s)) ≡ put + length (answers f (fitting_lines f most (length out₀ - put) (drop at s)))
    pub buffer : over (answers f (fitting_lines f most (length out₀) s)) out₀ ≡ over_at put (answers f (fitting_lines f most (length out₀ - put) (drop at s))) out

  pub none_answered : Answered out₀ 0 0
  none_answered =
      let z : length out₀ - 0 ≡ length out₀ = omega arith in
      record { inside = omega arith; room = omega arith; kept = refl; taken = rw z (omega arith); long = rw z (omega arith); buffer = rw z (sym (over_at_start _ _)) }

  module _ {out : List ℕ} {at put : ℕ} (l : Answered out at put) where
    -- a turn: the line of k bytes at `at` is answered
    pub one_answered : (k : ℕ) {out' : List ℕ} {p : ℕ} → most ≤ length out₀ - put → position (λ b. eqb b 10) (drop at s) ≡ Some k
        → p ≡ put + length (f (take k (drop at s))) → out' ≡ over_at put (f (take k (drop at s))) out → length out' ≡ length out → p ≤ length out' → Answered out' (at + (k + 1)) p
    one_answered k free e p o same inside' =
        let h = (whole_next (drop at s) k e).0 in
        let line = take k (drop at s) in
        let rest = fitting_lines f most (length out₀ - (put + length (f line))) (drop (at + (k + 1)) s) in
        let t = fitting_turn f most s (length out₀) at put k free e in
        let a = ap (answers f) t ∙ answers_next f line rest in
        let b = ap length a ∙ length-append (f line) (answers f rest) in
        let sp = ap span t ∙ span_next line rest in
        let lk = length-take-le k (drop at s) (omega arith) in
        record {
          inside = omega (arith, length-drop at s);
          room = inside';
          kept = same ∙ l.kept;
          taken = rw p (omega (arith, l.taken, sp, lk));
          long = rw p (omega (arith, l.long, b));
          buffer = rw (p, o) (l.buffer ∙ rw a (sym (over_at_then put (f line) (answers f rest) out l.room)));
        }

    -- an exit: no line is left that fits
    module _ (none : fitting_lines f most (length out₀ - put) (drop at s) ≡ []) where
      pub all_taken : at ≡ span (fitting_lines f most (length out₀) s)
      all_taken = omega (arith, l.taken, ap span none ∙ span_none)

      pub all_long : put ≡ length (answers f (fitting_lines f most (length out₀) s))
      all_long = omega (arith, l.long, ap length (ap (answers f) none ∙ answers_none f))

      pub all_put : out ≡ over (answers f (fitting_lines f most (length out₀) s)) out₀
      all_put = sym (l.buffer ∙ rw (ap (answers f) none ∙ answers_none f) (over_at_none put out))
