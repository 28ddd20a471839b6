-- How long a suffix, and a path against a path, may be: a header, two numbers of at most 8 bytes, and before each component a number of at most 9.
use Rattle.std.specs.Prelude.{ℕ, ◌+◌, ◌*◌}
use Rattle.path.specs.Limits.{max_component_count, max_path_length}
use Rattle.path_suffix.specs.Header.{header_length}

abbrev pub max_suffix_length : ℕ
max_suffix_length = header_length + 16 + (9 * max_component_count + max_path_length)

abbrev pub max_against_length : ℕ
max_against_length = 9 + max_suffix_length
