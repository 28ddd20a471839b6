-- A loop that writes the answers to the whole lines of a text s, as many at a time as the buffer takes.
use Rattle.codec.proofs.Prelude.{◌≡◌, sym, ◌∙◌, List, ℕ, ◌+◌, ◌-◌, ◌≤◌, arith, length, take, drop, length-drop, drop-drop}
use Rattle.codec.proofs.Lending.{to_end}
use Rattle.lines.specs.Lines.{span, whole_lines, fitting_lines}
use Rattle.lines.proofs.Fitting.{fitting-span, fitting_nothing}

-- whole lines up to `at` were answered, the others stand in the rest of s; the buffer, which was out₀, is out
pub record Drained (s out₀ out : List ℕ) (at : ℕ) : Type 0 where
  pub inside : at ≤ length s
  pub kept : length out ≡ length out₀
  pub whole : span (whole_lines s) ≡ at + span (whole_lines (drop at s))

-- a turn: as many bytes were taken as the lines have that fit
module _ (f : List ℕ → List ℕ) (most : ℕ) {s out₀ out : List ℕ} {at taken : ℕ} (l : Drained s out₀ out at)
    (e : taken ≡ span (fitting_lines f most (length out) (take (length s - at) (drop at s)))) where
  told : taken ≡ span (fitting_lines f most (length out) (drop at s))
  told = rw (to_end at s) at e

  pub drained_all : most ≤ length out → taken ≡ 0 → at ≡ span (whole_lines s)
  drained_all room none = omega (arith, l.whole, fitting_nothing f most (drop at s) (length out) room (sym told ∙ none))

  pub drained_next : (out' : List ℕ) → taken ≤ length (take (length s - at) (drop at s)) → length out' ≡ length out → Drained s out₀ out' (at + taken)
  drained_next out' le same =
      let h : taken ≤ length (drop at s) = rw (to_end at s) at le in
      record {
        inside = omega (arith, l.inside, h, length-drop at s);
        kept = same ∙ l.kept;
        whole = l.whole ∙ rw (fitting-span f most (drop at s) (length out), ← told, drop-drop) (omega arith);
      }
