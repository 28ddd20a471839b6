-- How many bytes a field of hex holds at most, and how many an answer takes at most, its newline with it.
use Rattle.std.specs.Prelude.{ℕ, ◌+◌, ◌*◌}

abbrev pub max_bytes : ℕ
max_bytes = 8192

abbrev pub max_answer : ℕ
max_answer = 2 * max_bytes + 256
