-- The laws of times against a reference's.
use Rattle.codec.proofs.Prelude.{refl, ap, Bool, ◌≤◌, arith}
use Rattle.codec.specs.Answers.{AllBytes}
use Rattle.codec.specs.Reader.{mapped}
use Rattle.codec.specs.Reads.{ReadsAs, Bounded}
use Rattle.codec.proofs.Bytes.{AllBytes-none, AllBytes-append}
use Rattle.codec.proofs.Once.{Once, all_yield, give_once, then_once, named_once, choose_once}
use Rattle.codec.proofs.Yields.{mapped_yields}
use Rattle.codec.proofs.Bounded.{give_bounded, then_bounded, mapped_bounded, choose_bounded}
use Rattle.codec.proofs.ReadsAs.{give_as, then_as, mapped_as}
use Rattle.compact_u64.specs.Number.{number_bytes}
use Rattle.compact_u64.proofs.Tags.{AllBytes-number_bytes}
use Rattle.grouping.specs.declared.RangeEnd.{RangeEnd}
use Rattle.grouping.specs.declared.RangeEnd.TheVariants.{Closed, Open}
use Rattle.grouping.specs.declared.TimeRange.{TimeRange}
use Rattle.grouping.specs.Range.{top, is_open, end_value, TypedRange, times_from}
use Rattle.time_distance.specs.Distance.{nearest_of, side_of, read_from}
use Rattle.time_distance.proofs.Distance.{from_bounded, from_once, nearest_as}
use Rattle.range_times.specs.declared.RangeTimesHeader.{RangeTimesHeader}
use Rattle.range_times.specs.Header.{start_tag_width, end_tag_width}
use Rattle.range_times.specs.Times.{header_of, end_bytes, times_bytes, read_end, read_times}

module _ (r : TimeRange) (end_open : Bool) (h : RangeTimesHeader) where
  pub end_bounded : Bounded (read_end r end_open h)
  unfolding read_end
  end_bounded = choose_bounded end_open _ _ (give_bounded Open) (mapped_bounded Closed _ (from_bounded end_tag_width (side_of r h.end_from_start) h.end_added h.end_tag))

  pub times_bounded : Bounded (read_times r end_open h)
  unfolding read_times
  times_bounded =
      then_bounded (read_from start_tag_width (side_of r h.start_from_start) h.start_added h.start_tag) _ (from_bounded start_tag_width (side_of r h.start_from_start) h.start_added h.start_tag) (λ start.
      mapped_bounded (times_from start) _ end_bounded)

  end_once : Once (read_end r end_open h)
  unfolding read_end
  end_once = choose_once end_open _ _ (give_once Open) (named_once Closed _ (λ a b e. cc) (from_once end_tag_width (side_of r h.end_from_start) h.end_added h.end_tag))

  pub times_once : Once (read_times r end_open h)
  unfolding read_times
  times_once =
      then_once (read_from start_tag_width (side_of r h.start_from_start) h.start_added h.start_tag) _ (λ t. t.start)
      (λ start. mapped_yields (times_from start) (read_end r end_open h) _ (all_yield _ _ (λ e. refl)))
      (from_once start_tag_width (side_of r h.start_from_start) h.start_added h.start_tag) (λ start.
      named_once (times_from start) _ (λ a b e. ap (λ (t : TimeRange). t.end) e) end_once)

pub AllBytes-times : (r t : TimeRange) → AllBytes (times_bytes r t)
unfolding times_bytes
AllBytes-times r t = AllBytes-append (number_bytes start_tag_width (nearest_of r t.start).difference) (end_bytes r t.end) (AllBytes-number_bytes start_tag_width _) (go t.end)
  where
    go : (e : RangeEnd) → AllBytes (end_bytes r e)
    go (Closed x) = AllBytes-number_bytes end_tag_width _
    go Open = AllBytes-none

module _ (r t : TimeRange) (known : TypedRange r) (typed : TypedRange t) where
  end_as : ReadsAs (read_end r (is_open t.end) (header_of r t)) t.end (end_bytes r t.end)
  unfolding read_end header_of
  end_as = go t.end typed.end
    where
      go : (e : RangeEnd) → end_value e ≤ top → ReadsAs (read_end r (is_open e) (header_of r (times_from t.start e))) e (end_bytes r e)
      go (Closed x) h = mapped_as (nearest_as end_tag_width (omega arith) (omega arith) r known x h) Closed
      go Open h = give_as Open

  pub times_as : ReadsAs (read_times r (is_open t.end) (header_of r t)) t (times_bytes r t)
  unfolding read_times header_of times_bytes
  times_as = then_as (nearest_as start_tag_width (omega arith) (omega arith) r known t.start typed.start) (λ start. mapped (times_from start) (read_end r (is_open t.end) (header_of r t))) (mapped_as end_as (times_from t.start))
