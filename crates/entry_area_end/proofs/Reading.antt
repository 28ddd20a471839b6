-- The laws of the fields after the path.
use Rattle.codec.proofs.Prelude.{refl, arith}
use Rattle.codec.specs.Reader.{some_bytes}
use Rattle.codec.proofs.Relations.{SomeBytes}
use Rattle.codec.proofs.Readers.{some_bytes_reads}
use Rattle.codec.proofs.Relaxes.{relaxes_self}
use Rattle.codec.proofs.Bounded.{some_bytes_bounded}
use Rattle.codec.proofs.Fields.{Field, field_as, field_then, field_last}
use Rattle.compact_u64.specs.Number.{number_bytes, read_number}
use Rattle.compact_u64.specs.Laws.{NumberAs}
use Rattle.compact_u64.proofs.Number.{number_reads, number_relaxes, number_bounded}
use Rattle.grouping.specs.declared.TimeRange.{TimeRange}
use Rattle.grouping.specs.Range.{TypedRange}
use Rattle.time_relative.specs.Difference.{difference_of, read_included}
use Rattle.time_relative.proofs.Relations.{IncludedAs}
use Rattle.time_relative.proofs.Included.{included_reads, included_relaxes, included_bounded}
use Rattle.entry_area_end.specs.declared.EntryAreaHeader.{EntryAreaHeader}
use Rattle.entry_area_end.specs.Header.{time_tag_width, length_tag_width}
use Rattle.entry_area_end.specs.End.{end_of, end_from, read_after_path}
use Rattle.entry_area_end.proofs.Relations.{EndAs}

-- ---- the laws
module _ (r : TimeRange) (h : EntryAreaHeader) where
  time_field : Field (TypedRange r) (λ canonic. read_included canonic time_tag_width r h.time_added h.time_tag)
      (IncludedAs time_tag_width r h.time_added h.time_tag) (λ x. number_bytes time_tag_width (difference_of r x).difference)
  time_field = record {
    reads = included_reads time_tag_width r h.time_added h.time_tag (omega arith) (omega arith);
    relaxes = included_relaxes time_tag_width r h.time_added h.time_tag;
    bounded = included_bounded time_tag_width r h.time_added h.time_tag;
    written = λ x e w. w.bytes;
  }

  size_field : Field (TypedRange r) (λ canonic. read_number canonic length_tag_width h.length_tag) (NumberAs length_tag_width h.length_tag) (number_bytes length_tag_width)
  size_field = record {
    reads = λ ty. number_reads length_tag_width h.length_tag (omega arith) (omega arith);
    relaxes = number_relaxes length_tag_width h.length_tag;
    bounded = number_bounded length_tag_width h.length_tag;
    written = λ x e w. w.bytes;
  }

  digest-field : Field (TypedRange r) (λ canonic. some_bytes 32) (SomeBytes 32) (λ d. d)
  digest-field = record { reads = λ ty. some_bytes_reads 32; relaxes = relaxes_self (some_bytes 32); bounded = λ canonic. some_bytes_bounded 32; written = λ d e w. w.2 }

  -- one line a field, in the order in which they are read
  pub end_laws : Field (TypedRange r) (λ canonic. read_after_path canonic r h) (EndAs r h) (end_of r)
  unfolding read_after_path
  end_laws = field_as
      (field_then (λ end. end.timestamp) time_field (λ time.
      field_then (λ end. end.payload_length) size_field (λ size.
      field_last (λ end. end.payload_digest) digest-field (end_from time size) (λ d. (((tt {0}, refl), refl), refl)) (λ end k. rw (← k.0.1, ← k.1)))))
      (λ end e w. record { time = search; size = search; digest = search; bytes = w.whole })
      (λ end e a. record { known = tt; holds = search; whole = a.bytes })
