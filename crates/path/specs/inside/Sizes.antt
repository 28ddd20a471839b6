-- What private functions ask of a record's sizes.
use Rattle.std.specs.Prelude.{◌≡◌, true, ℕ, ◌≤◌}
use Rattle.path.specs.Record.{Path, sized}

-- sizes within the limits, and k components at least
pub record Leads (p : Path) (k : ℕ) : Type 0 where
  pub fits : sized p ≡ true
  pub there : k ≤ p.count
