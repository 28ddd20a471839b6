-- Times that are read are numbers of 64 bits.
use Rattle.codec.proofs.Prelude.{Bool, true, false, ◌≤◌, arith}
use Rattle.codec.specs.Reader.{give}
use Rattle.codec.specs.Reads.{Yields}
use Rattle.codec.proofs.Yields.{yields_as, give_yields, then_yields, mapped_yields, choose_yields}
use Rattle.grouping.specs.declared.RangeEnd.TheVariants.{Closed, Open}
use Rattle.grouping.specs.declared.TimeRange.{TimeRange}
use Rattle.grouping.specs.Range.{top, end_value, TypedRange, times_from}
use Rattle.time_distance.specs.Distance.{side_of, read_from}
use Rattle.time_distance.proofs.Distance.{from_yields}
use Rattle.range_times.specs.declared.RangeTimesHeader.{RangeTimesHeader}
use Rattle.range_times.specs.Header.{start_tag_width, end_tag_width}
use Rattle.range_times.specs.Times.{read_end, read_times}

module _ (r : TimeRange) (t : TypedRange r) where
  side_small : (b : Bool) → end_value (side_of r b) ≤ top
  side_small true = t.start
  side_small false = t.end

  module _ (end_open : Bool) (h : RangeTimesHeader) where
    end_yields : Yields (read_end r end_open h) (λ e. end_value e ≤ top)
    unfolding read_end
    end_yields =
        let side = side_of r h.end_from_start in
        choose_yields end_open _ _ (λ e. end_value e ≤ top)
        (yields_as (give Open) _ _ (give_yields Open) (λ e q. rw (← q) (omega arith)))
        (mapped_yields Closed _ (λ e. end_value e ≤ top) (from_yields end_tag_width (omega arith) (omega arith) side h.end_added h.end_tag (side_small h.end_from_start)))

    pub times_yields : Yields (read_times r end_open h) TypedRange
    unfolding read_times
    times_yields =
        let side = side_of r h.start_from_start in
        then_yields (read_from start_tag_width side h.start_added h.start_tag) _ _ TypedRange
        (from_yields start_tag_width (omega arith) (omega arith) side h.start_added h.start_tag (side_small h.start_from_start)) (λ x s.
        mapped_yields (times_from x) _ TypedRange (yields_as _ _ _ end_yields (λ e q. record { start = s; end = q })))
