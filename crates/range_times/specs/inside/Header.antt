-- What the header's private functions ask: that the tags fit their bits.
use Rattle.std.specs.Prelude.{◌<◌, ◌^◌}
use Rattle.range_times.specs.declared.RangeTimesHeader.{RangeTimesHeader}
use Rattle.range_times.specs.Header.{start_tag_width, end_tag_width}

pub record HeaderFits (h : RangeTimesHeader) : Type 0 where
  pub start : h.start_tag < 2 ^ start_tag_width
  pub end : h.end_tag < 2 ^ end_tag_width
