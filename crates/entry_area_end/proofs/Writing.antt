-- The fields after the path, as they are written: both numbers, then the digest.
use Rattle.codec.proofs.Prelude.{◌≡◌, List, ◌++◌, append_assoc, ℕ}
use Rattle.compact_u64.specs.Number.{number_bytes}
use Rattle.grouping.specs.declared.TimeRange.{TimeRange}
use Rattle.time_relative.specs.declared.TimeDifference.{TimeDifference}
use Rattle.time_relative.specs.Difference.{difference_of}
use Rattle.entry_area_end.specs.declared.End.{End}
use Rattle.entry_area_end.specs.Header.{time_tag_width, length_tag_width}
use Rattle.entry_area_end.specs.End.{end_of}

abbrev pub numbers_of : TimeDifference → End → List ℕ
numbers_of d e = number_bytes time_tag_width d.difference ++ number_bytes length_tag_width e.payload_length

pub end_apart : (r : TimeRange) (e : End) (d : TimeDifference) → d ≡ difference_of r e.timestamp → end_of r e ≡ numbers_of d e ++ e.payload_digest
end_apart r e d same = rw (same, append_assoc)
