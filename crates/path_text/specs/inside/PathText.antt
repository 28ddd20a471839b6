-- One component more, from its text.
use Rattle.std.specs.Prelude.{◌≡◌, List, true, false, Bool, ◌&&◌, ℕ, length, Option}
use Rattle.std.specs.Option.{MatchOption}
use Rattle.text.specs.Hex.{is_hex, unhex}
use Rattle.path.specs.declared.PathBuilder.{PathBuilder}
use Rattle.path.specs.Builder.{built, fits_after, built_more}

-- whether a text is hex, of a component that fits
abbrev pub text_fits : PathBuilder → List ℕ → Bool
text_fits b t = is_hex t && fits_after b.total b.count (length (unhex t))

-- a builder grown by a component's text
abbrev pub AppendsText : PathBuilder → List ℕ → List ℕ → Option PathBuilder → List ℕ → Type 0
AppendsText b t s g left = MatchOption g (text_fits b t ≡ false) (λ grown. (text_fits b t ≡ true) × (built grown left ≡ built_more b (unhex t) s))
