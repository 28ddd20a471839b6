-- docs/ABI.md, "Records": a range of times as flat bytes, its start, the mark of an open end, its end, which is zero beside the mark.
use Rattle.std.specs.Prelude.{List, ◌∷◌, ◌++◌, Bool, true, cond, ◌&&◌, ℕ, eqb, take, drop, get_or}
use Rattle.codec.specs.Header.{bit}
use Rattle.compact_u64.specs.BigEndian.{big_endian, value_of}
use Rattle.grouping.specs.declared.RangeEnd.{RangeEnd}
use Rattle.grouping.specs.declared.RangeEnd.TheVariants.{Closed, Open}
use Rattle.grouping.specs.declared.TimeRange.{TimeRange}
use Rattle.grouping.specs.Range.{is_open}

-- how many bytes there are
abbrev pub times_size : ℕ
times_size = 17

abbrev pub end_time : RangeEnd → ℕ
end_time (Closed time) = time
end_time Open = 0

unfoldable pub times_flat : TimeRange → List ℕ
times_flat t = big_endian 8 t.start ++ (bit (is_open t.end) ∷ big_endian 8 (end_time t.end))

-- the bytes from the first on are a range's: the mark is 0, or 1 beside a zero end
unfoldable pub times_marked : List ℕ → Bool
times_marked s = cond (eqb (get_or s 8 0) 0) true (eqb (get_or s 8 0) 1 && eqb (value_of (take 8 (drop 9 s))) 0)

unfoldable pub times_in : List ℕ → TimeRange
times_in s = record {
  start = value_of (take 8 s);
  end = cond (eqb (get_or s 8 0) 1) Open (Closed (value_of (take 8 (drop 9 s))));
}
