-- docs/FORMAT.md, "Paths": the header byte of a suffix, a tag for the total length, and one for the component count.
use Rattle.std.specs.Prelude.{ℕ, ◌+◌}
use Rattle.codec.specs.Header.{bits_at, placed}
use Rattle.path_suffix.specs.declared.Tags.{Tags}

-- how many bytes the header takes
abbrev pub header_length : ℕ
header_length = 1

-- the widths of the tags
abbrev pub total_width : ℕ
total_width = 4

abbrev pub count_width : ℕ
count_width = 4

-- where each tag starts, told by the width of the one before it
abbrev pub total_at : ℕ
total_at = 0

abbrev pub count_at : ℕ
count_at = total_width

abbrev pub unpack_tags : ℕ → Tags
unpack_tags b = record { total = bits_at total_at total_width b; count = bits_at count_at count_width b }

abbrev pub pack_tags : Tags → ℕ
pack_tags t = placed total_at total_width t.total + placed count_at count_width t.count
