-- All examples of specs/Cases.antt hold, by computation.
use Rattle.codec.proofs.Prelude.{refl}
use Rattle.codec.specs.Format.{put_answer}
use Rattle.compact_u64.specs.Number.{min_tag, encoding_width, number_bytes, number_said, read_number}
use Rattle.path.specs.Record.{path_from, well_formed}
use Rattle.path_suffix.specs.Suffix.{component_bytes, sizes_bytes, suffix_bytes, read_sizes, read_sized, read_last, read_components, read_suffix}
use Rattle.path_codec.specs.Plain.{read_path}
use Rattle.path_relative.specs.Against.{join_ok, read_against}
use Rattle.path_relative.specs.Records.{read_against_path}
use Rattle.path_relative.specs.Extension.{read_extension}
use Rattle.grouping.specs.Range.{bounds, includes_time, includes_range}
use Rattle.grouping.specs.Area.{includes_area, area_lies_inside}
use Rattle.grouping.specs.Record.{area_from}
use Rattle.time_relative.specs.Difference.{difference_of, time_at, is_nearest, read_time, is_included, read_included}
use Rattle.area_times.specs.Header.{spare_bits}
use Rattle.area_times.specs.Times.{header_of, times_bytes, read_end, read_times}
use Rattle.area_area.specs.Area.{area_bytes, read_subspace, read_parts, read_area}
use Rattle.area_area.specs.Records.{read_against_area}
use Rattle.entry.specs.Entry.{entry_lies_inside}
use Rattle.entry.specs.Record.{entry_from}
use Rattle.entry_area_end.specs.End as ends
use Rattle.entry_area.specs.Entry as entries
use Rattle.entry_area.specs.Records.{read_against_namespace_area}
use Rattle.range_3d.specs.Record.{paths_from, range_from}
use Rattle.time_distance.specs.Distance.{nearest_of, read_from}
use Rattle.range_subspaces.specs.Subspaces as subspaces
use Rattle.range_paths.specs.Paths as paths
use Rattle.range_times.specs.Times as times
use Rattle.range3d_range3d.specs.Range as ranges
use Rattle.range3d_range3d.specs.Records.{read_against_range}
use Rattle.path.specs.Prefix.{is_prefix}
use Rattle.worked_examples.specs.Cases.{AllHold, cases}

pub cases_hold : AllHold cases
unfolding put_answer min_tag encoding_width number_bytes number_said read_number path_from well_formed component_bytes sizes_bytes suffix_bytes read_sizes read_sized read_last read_components read_suffix read_path join_ok read_against read_against_path read_extension bounds includes_range includes_area area_lies_inside area_from difference_of time_at is_nearest read_time spare_bits header_of times_bytes area_bytes read_subspace read_end read_times read_parts read_area read_against_area is_prefix includes_time read_included is_included entry_from entry_lies_inside ends.header_of entries.entry_bytes ends.read_after_path entries.read_rest entries.read_parts entries.read_entry read_against_namespace_area paths_from range_from nearest_of read_from subspaces.source_of subspaces.sources_of subspaces.id_bytes subspaces.subspaces_bytes subspaces.read_subspaces paths.sides_of paths.path_bytes paths.paths_bytes paths.read_paths times.header_of times.times_bytes times.read_end times.read_times ranges.header_of ranges.range_bytes ranges.read_parts ranges.read_range read_against_range
cases_hold =
    ((refl, refl), ((refl, refl), ((refl, refl), ((refl, refl), ((refl, refl), ((refl, refl), ((refl, refl), ((refl, refl), ((refl, refl), ((refl, refl), ((refl, refl), ((refl, refl), ((refl, refl), ((refl, refl), ((refl, refl), ((refl, refl), ((refl, refl), ((refl, refl), ((refl, refl), ((refl, refl), (refl, ((refl, refl), tt))))))))))))))))))))))
