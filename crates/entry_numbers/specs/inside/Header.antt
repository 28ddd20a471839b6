-- What the header's private functions ask: that the tags fit their bits.
use Rattle.std.specs.Prelude.{◌<◌, ◌^◌}
use Rattle.entry_numbers.specs.declared.EntryHeader.{EntryHeader}
use Rattle.entry_numbers.specs.Header.{time_tag_width, length_tag_width}

pub record HeaderFits (h : EntryHeader) : Type 0 where
  pub time : h.time_tag < 2 ^ time_tag_width
  pub length : h.length_tag < 2 ^ length_tag_width
