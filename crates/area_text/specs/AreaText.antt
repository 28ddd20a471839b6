-- The fields of an area: docs/CASES.md. `*` is any subspace, or an open end.
use Rattle.std.specs.Prelude.{List, ◌++◌, cond, ℕ, ◌+◌, Option, Some, None, option_map}
use Rattle.codec.specs.Bytes.{same_bytes}
use Rattle.path.specs.Flat.{path_in}
use Rattle.grouping.specs.declared.RangeEnd.{RangeEnd}
use Rattle.grouping.specs.declared.RangeEnd.TheVariants.{Closed, Open}
use Rattle.grouping.specs.Record.{Area, area_with}
use Rattle.text.specs.Decimal.{decimal_text}
use Rattle.text.specs.Hex.{hex_text}
use Rattle.text.specs.Ids.{read_id_text}
use Rattle.decimal.specs.Decimal.{read_decimal}
use Rattle.path_text.specs.PathText.{path_text_of}
use Rattle.case_text.specs.Texts.{after_tab}
use Rattle.case_text.specs.Fields.{field, told, ◌>>=◌, decimal_field, path_field}
use Rattle.area_text.specs.declared.AreaField.{AreaField}
use Rattle.text.specs.Ascii.{ascii}

abbrev pub star : List ℕ
star = ascii "*"

-- ---- a subspace: `*`, or an id in hex
unfoldable pub read_subspace_text : List ℕ → Option (Option (List ℕ))
read_subspace_text s = cond (same_bytes s star) (Some None) (option_map Some (read_id_text s))

abbrev pub subspace_text : Option (List ℕ) → List ℕ
subspace_text (Some id) = hex_text id
subspace_text None = star

-- ---- an end: `*`, or a number in decimal
unfoldable pub read_end_text : List ℕ → Option RangeEnd
read_end_text s = cond (same_bytes s star) (Some Open) (option_map Closed (told (read_decimal s)))

abbrev pub end_text : RangeEnd → List ℕ
end_text (Closed x) = decimal_text x
end_text Open = star

-- ---- an area is four fields: subspace, path, start, end
abbrev pub area_text : Area → List ℕ
area_text a = subspace_text a.subspace ++ after_tab (path_text_of a.path) ++ after_tab (decimal_text a.times.start) ++ after_tab (end_text a.times.end)

abbrev pub area_field : ℕ → List ℕ → Option Area
area_field i line = do
  subspace ← read_subspace_text (field i line)
  path ← path_field (i + 1) line
  start ← decimal_field (i + 2) line
  end ← read_end_text (field (i + 3) line)
  Some (record { subspace = subspace; path = path; times = record { start = start; end = end } })

-- the area of fields that were read
abbrev pub field_area : AreaField → Area
field_area f = area_with f.head (path_in f.path.flat)
