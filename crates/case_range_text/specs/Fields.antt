-- The fields of a 3d range in a case line: docs/CASES.md. They are six: start and end of the subspaces, of the paths and of the times; `*` is an open end.
use Rattle.std.specs.Prelude.{List, ◌++◌, cond, ℕ, ◌+◌, Option, Some, None, option_map}
use Rattle.codec.specs.Bytes.{same_bytes}
use Rattle.path.specs.declared.Path.{Path as HeldPath}
use Rattle.path.specs.Record.{Path}
use Rattle.path.specs.Flat.{path_in}
use Rattle.range_3d.specs.Range3d.{end_named}
use Rattle.range_3d.specs.Record.{Range3d}
use Rattle.text.specs.Decimal.{decimal_text}
use Rattle.text.specs.Hex.{hex_text}
use Rattle.area_text.specs.AreaText.{star, read_subspace_text, read_end_text, subspace_text, end_text}
use Rattle.path_text.specs.PathText.{read_path_text, path_text_of}
use Rattle.case_text.specs.Texts.{after_tab}
use Rattle.case_text.specs.Fields.{field, told, ◌>>=◌, decimal_field, id_field, path_field}
use Rattle.case_range_text.specs.declared.RangeField.{RangeField}

-- ---- printed
abbrev pub path_end_text : Option Path → List ℕ
path_end_text (Some end) = path_text_of end
path_end_text None = star

abbrev pub range_text : Range3d → List ℕ
range_text r =
    hex_text r.subspaces.start
    ++ after_tab (subspace_text r.subspaces.end)
    ++ after_tab (path_text_of r.paths.start)
    ++ after_tab (path_end_text r.paths.end)
    ++ after_tab (decimal_text r.times.start)
    ++ after_tab (end_text r.times.end)

-- ---- read, from the i-th field on; paths are held as their bytes. An open end of subspaces reads as the area's any subspace does
abbrev pub end_held : Option HeldPath → Option Path
end_held end = end_named (λ p. path_in p.flat) end

unfoldable pub read_path_end : List ℕ → Option (Option Path)
read_path_end s = cond (same_bytes s star) (Some None) (option_map (λ p. Some (path_in p.flat)) (told (read_path_text s)))

abbrev pub range_field : ℕ → List ℕ → Option Range3d
range_field i line = do
  start ← id_field i line
  end ← read_subspace_text (field (i + 1) line)
  path ← path_field (i + 2) line
  path_end ← read_path_end (field (i + 3) line)
  time ← decimal_field (i + 4) line
  time_end ← read_end_text (field (i + 5) line)
  Some (record {
    subspaces = record { start = start; end = end };
    paths = record { start = path; end = path_end };
    times = record { start = time; end = time_end };
  })

-- the 3d range of fields that were read
abbrev pub field_range : RangeField → Range3d
field_range f = record { subspaces = f.subspaces; paths = record { start = path_in f.start.flat; end = end_held f.end }; times = f.times }
