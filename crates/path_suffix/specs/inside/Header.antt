-- What the header's private functions ask: that the tags fit their bits.
use Rattle.std.specs.Prelude.{◌<◌, ◌^◌}
use Rattle.path_suffix.specs.declared.Tags.{Tags}
use Rattle.path_suffix.specs.Header.{total_width, count_width}

pub record TagsFit (t : Tags) : Type 0 where
  pub total : t.total < 2 ^ total_width
  pub count : t.count < 2 ^ count_width
