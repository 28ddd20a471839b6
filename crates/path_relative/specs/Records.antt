-- docs/FORMAT.md, "Paths": both encodings, on records. 5 is tested on the reference and on the path.
use Rattle.std.specs.Prelude.{◌++◌, Bool, true, ◌&&◌, ℕ}
use Rattle.codec.specs.Format.{Format, verdict_by}
use Rattle.codec.specs.Reader.{Reader, checked, mapped, on_formed}
use Rattle.path.specs.Record.{Path, components_of, path_from, well_formed}
use Rattle.path.specs.Prefix.{is_prefix}
use Rattle.compact_u64.specs.Number.{standalone_bytes}
use Rattle.path_suffix.specs.Suffix.{suffix_by}
use Rattle.path_relative.specs.Against.{against_bytes, read_against}
use Rattle.path_relative.specs.Extension.{extension_bytes, read_extension}

abbrev pub against_path : Path → Format Path
against_path r = record {
  check = λ p. verdict_by (well_formed r && well_formed p) true;
  encode = λ p. against_bytes (components_of r) (components_of p);
}

-- the same where it is known that k components are shared: their number and the components after them
abbrev pub shared_by : (Path → Bool) → ℕ → Format Path
shared_by formed k = record {
  check = (suffix_by formed k).check;
  encode = λ p. standalone_bytes k ++ (suffix_by formed k).encode p;
}

-- 5 unless both records pass the test, then 3 unless the reference is a prefix
abbrev pub extends_by : (Path → Bool) → Path → Format Path
extends_by formed r = record {
  check = λ p. verdict_by (formed r && formed p) (is_prefix (components_of r) (components_of p));
  encode = λ p. extension_bytes (components_of r) (components_of p);
}

abbrev pub extends_path : Path → Format Path
extends_path = extends_by well_formed

-- 5 unless the reference passes the test
abbrev pub read_against_by : (Path → Bool) → Bool → Path → Reader Path
read_against_by formed canonic r = on_formed (formed r) (mapped path_from (read_against canonic (components_of r)))

unfoldable pub read_against_path : Bool → Path → Reader Path
read_against_path = read_against_by well_formed

-- and 2 unless it is a prefix of the path
abbrev pub read_within_by : (Path → Bool) → Bool → Path → Reader Path
read_within_by formed canonic r = on_formed (formed r) (mapped path_from (checked (is_prefix (components_of r)) (read_against canonic (components_of r))))

abbrev pub read_extends_by : (Path → Bool) → Bool → Path → Reader Path
read_extends_by formed canonic r = on_formed (formed r) (mapped path_from (read_extension canonic (components_of r)))

unfoldable pub read_extends_path : Bool → Path → Reader Path
read_extends_path = read_extends_by well_formed
