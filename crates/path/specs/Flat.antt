-- docs/ABI.md, "Records": a path as a record of bytes, its count, its lengths of two bytes each, its bytes.
use Rattle.std.specs.Prelude.{List, [], ◌∷◌, ◌++◌, cond, ℕ, zero, suc, ◌+◌, ◌*◌, ◌%◌, leb, length, take, drop, get_or}
use Rattle.compact_u64.specs.BigEndian.{big_endian, value_of}
use Rattle.path.specs.Record.{Path}
use Rattle.path.specs.Limits.{max_component_count, max_path_length}

-- where the lengths and the bytes start, and how many bytes there are in all
abbrev pub lengths_start : ℕ
lengths_start = 1

abbrev pub bytes_start : ℕ
bytes_start = lengths_start + 2 * max_component_count

abbrev pub path_size : ℕ
path_size = bytes_start + max_path_length

-- numbers as two bytes each, and n of them from the first byte on
abbrev pub shorts : List ℕ → List ℕ
shorts [] = []
shorts (v ∷ vs) = big_endian 2 v ++ shorts vs

abbrev pub shorts_in : ℕ → List ℕ → List ℕ
shorts_in zero s = []
shorts_in (suc n) s = value_of (take 2 s) ∷ shorts_in n (drop 2 s)

unfoldable pub path_flat : Path → List ℕ
path_flat p = p.count % 256 ∷ (shorts p.lengths ++ p.bytes)

-- the path that starts with the first byte
unfoldable pub path_in : List ℕ → Path
path_in s = record {
  bytes = take max_path_length (drop bytes_start s);
  lengths = shorts_in max_component_count (drop lengths_start s);
  count = get_or s 0 0;
}

-- what a lent record has; `none` of fewer bytes than a record's
abbrev pub lent : {A : Type 0} → A → (Path → A) → List ℕ → A
lent none part s = cond (leb path_size (length s)) (part (path_in s)) none
