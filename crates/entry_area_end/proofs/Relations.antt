-- What the laws of the fields after the path say: the bytes e are what writing them gives against the times r under a header h.
use mathlib.Core.Path.{◌≡◌}
use mathlib.Core.List.{List}
use Prim.Native.Nat.{ℕ}
use Rattle.codec.proofs.Relations.{SomeBytes}
use Rattle.compact_u64.specs.Number.{number_bytes}
use Rattle.compact_u64.specs.Laws.{NumberAs}
use Rattle.grouping.specs.declared.TimeRange.{TimeRange}
use Rattle.time_relative.specs.Difference.{difference_of}
use Rattle.time_relative.proofs.Relations.{IncludedAs}
use Rattle.entry_area_end.specs.declared.EntryAreaHeader.{EntryAreaHeader}
use Rattle.entry_area_end.specs.declared.End.{End}
use Rattle.entry_area_end.specs.Header.{time_tag_width, length_tag_width}
use Rattle.entry_area_end.specs.End.{end_of}

pub record EndAs (r : TimeRange) (h : EntryAreaHeader) (end : End) (e : List ℕ) : Type 0 where
  pub time : IncludedAs time_tag_width r h.time_added h.time_tag end.timestamp (number_bytes time_tag_width (difference_of r end.timestamp).difference)
  pub size : NumberAs length_tag_width h.length_tag end.payload_length (number_bytes length_tag_width end.payload_length)
  pub digest : SomeBytes 32 end.payload_digest end.payload_digest
  pub bytes : e ≡ end_of r end
