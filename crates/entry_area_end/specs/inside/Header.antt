-- What the header's private functions ask: that the tags and the spare bits fit their places.
use Rattle.std.specs.Prelude.{◌<◌, ◌^◌}
use Rattle.entry_area_end.specs.declared.EntryAreaHeader.{EntryAreaHeader}
use Rattle.entry_area_end.specs.Header.{time_tag_width, length_tag_width, spare_width}

pub record HeaderFits (h : EntryAreaHeader) : Type 0 where
  pub time : h.time_tag < 2 ^ time_tag_width
  pub length : h.length_tag < 2 ^ length_tag_width
  pub spare : h.spare < 2 ^ spare_width
