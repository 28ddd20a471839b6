-- The worked examples of docs/FORMAT.md, "Examples", that are proved: one list.
use Rattle.std.specs.Prelude.{◌≡◌, List, [], ◌∷◌, true, false, ℕ, Some, None, length, replicate}
use Rattle.codec.specs.Answers.{Answer, accepted, refused, wrote}
use Rattle.codec.specs.Format.{write_answer}
use Rattle.codec.specs.Reader.{named}
use Rattle.path.specs.Record.{path_from}
use Rattle.path_codec.specs.Plain.{plain_path, read_path}
use Rattle.path_relative.specs.Records.{against_path, read_against_path}
use Rattle.grouping.specs.declared.RangeEnd.{RangeEnd}
use Rattle.grouping.specs.declared.RangeEnd.TheVariants.{Closed, Open}
use Rattle.grouping.specs.Area.{AreaValue}
use Rattle.grouping.specs.Record.{area_from}
use Rattle.grouping.specs.Range.{times_from}
use Rattle.area_area.specs.Area.{value_from}
use Rattle.area_area.specs.Records.{against_area, read_against_area}
use Rattle.entry.specs.Entry.{EntryValue}
use Rattle.entry.specs.Record.{entry_from}
use Rattle.entry_area.specs.Records.{against_namespace_area, read_against_namespace_area}
use Rattle.range_3d.specs.Range3d.{Range3dValue}
use Rattle.range_3d.specs.Record.{range_from}
use Rattle.range3d_range3d.specs.Records.{against_range, read_against_range}

-- components
abbrev pub a : List ℕ
a = 0x61 ∷ []

abbrev pub bc : List ℕ
bc = 0x62 ∷ 0x63 ∷ []

-- an area of any subspace and the empty path
abbrev pub times : ℕ → RangeEnd → AreaValue
times start end = value_from None (times_from start end) []

-- a namespace, an id, a digest; the area of that id, the empty path and all times; an entry in it
abbrev pub namespace : List ℕ
namespace = replicate 32 0x6E

abbrev pub id : List ℕ
id = replicate 32 0x73

abbrev pub digest : List ℕ
digest = replicate 32 0x64

abbrev pub everything : AreaValue
everything = value_from (Some id) (times_from 0 Open) []

abbrev pub at : ℕ → ℕ → EntryValue
at time size = record { namespace = namespace; subspace = id; path = []; time = time; size = size; digest = digest }

-- the 3d range from that id to open, from the empty path to open, from 0 to open
abbrev pub all : Range3dValue
all = record { subspaces = record { start = id; end = None }; paths = record { start = []; end = None }; times = times_from 0 Open }

-- a message with the answers of strict and of lenient reading (of a 3d range lenient only), or a value with the bytes that writing gives; records stand as their values
pub data Case : Type 0 where
  path : List ℕ → Answer (List (List ℕ)) → Answer (List (List ℕ)) → Case
  path_written : List (List ℕ) → List ℕ → Case
  against : List (List ℕ) → List ℕ → Answer (List (List ℕ)) → Answer (List (List ℕ)) → Case
  against_written : List (List ℕ) → List (List ℕ) → List ℕ → Case
  area : AreaValue → List ℕ → Answer AreaValue → Answer AreaValue → Case
  area_written : AreaValue → AreaValue → List ℕ → Case
  entry : AreaValue → List ℕ → Answer EntryValue → Answer EntryValue → Case
  entry_written : AreaValue → EntryValue → List ℕ → Case
  range : Range3dValue → List ℕ → Answer Range3dValue → Case
  range_written : Range3dValue → Range3dValue → List ℕ → Case

abbrev pub Holds : Case → Type 0
Holds (path s strict lenient) = (read_path true s ≡ named path_from strict) × (read_path false s ≡ named path_from lenient)
Holds (path_written p bytes) = (write_answer plain_path (path_from p) (length bytes) ≡ wrote (length bytes)) × (plain_path.encode (path_from p) ≡ bytes)
Holds (against r s strict lenient) = (read_against_path true (path_from r) s ≡ named path_from strict) × (read_against_path false (path_from r) s ≡ named path_from lenient)
Holds (against_written r p bytes) = (write_answer (against_path (path_from r)) (path_from p) (length bytes) ≡ wrote (length bytes)) × ((against_path (path_from r)).encode (path_from p) ≡ bytes)
Holds (area r s strict lenient) = (read_against_area true (area_from r) s ≡ named area_from strict) × (read_against_area false (area_from r) s ≡ named area_from lenient)
Holds (area_written r a bytes) = (write_answer (against_area (area_from r)) (area_from a) (length bytes) ≡ wrote (length bytes)) × ((against_area (area_from r)).encode (area_from a) ≡ bytes)
Holds (entry r s strict lenient) = (read_against_namespace_area true namespace (area_from r) s ≡ named entry_from strict) × (read_against_namespace_area false namespace (area_from r) s ≡ named entry_from lenient)
Holds (entry_written r e bytes) = (write_answer (against_namespace_area namespace (area_from r)) (entry_from e) (length bytes) ≡ wrote (length bytes)) × ((against_namespace_area namespace (area_from r)).encode (entry_from e) ≡ bytes)
Holds (range r s lenient) = read_against_range (range_from r) s ≡ named range_from lenient
Holds (range_written r v bytes) = (write_answer (against_range (range_from r)) (range_from v) (length bytes) ≡ wrote (length bytes)) × ((against_range (range_from r)).encode (range_from v) ≡ bytes)

abbrev pub AllHold : List Case → Type 0
AllHold [] = Unit {0}
AllHold (c ∷ cs) = Holds c × AllHold cs

abbrev pub cases : List Case
cases =
    path (0x00 ∷ []) (accepted [] 1) (accepted [] 1)
    ∷ path_written [] (0x00 ∷ [])
    ∷ path (0x01 ∷ []) (accepted ([] ∷ []) 1) (accepted ([] ∷ []) 1)
    ∷ path_written ([] ∷ []) (0x01 ∷ [])
    ∷ path (0x10 ∷ []) (refused 2) (refused 2)
    ∷ path (0x32 ∷ 0x01 ∷ 0x61 ∷ 0x62 ∷ 0x63 ∷ []) (accepted (a ∷ bc ∷ []) 5) (accepted (a ∷ bc ∷ []) 5)
    ∷ path_written (a ∷ bc ∷ []) (0x32 ∷ 0x01 ∷ 0x61 ∷ 0x62 ∷ 0x63 ∷ [])
    ∷ path (0x12 ∷ 0x02 ∷ 0x61 ∷ []) (refused 1) (refused 1)
    ∷ path (0x12 ∷ 0x02 ∷ 0x61 ∷ 0x62 ∷ []) (refused 2) (refused 2)
    ∷ path (0x0C ∷ 0x15 ∷ []) (refused 2) (refused 2)
    ∷ against (a ∷ []) (0x01 ∷ 0x21 ∷ 0x62 ∷ 0x63 ∷ []) (accepted (a ∷ bc ∷ []) 4) (accepted (a ∷ bc ∷ []) 4)
    ∷ against_written (a ∷ []) (a ∷ bc ∷ []) (0x01 ∷ 0x21 ∷ 0x62 ∷ 0x63 ∷ [])
    ∷ against (a ∷ []) (0x00 ∷ 0x32 ∷ 0x01 ∷ 0x61 ∷ 0x62 ∷ 0x63 ∷ []) (refused 2) (accepted (a ∷ bc ∷ []) 6)
    ∷ against (a ∷ []) (0x02 ∷ 0x00 ∷ []) (refused 2) (refused 2)
    ∷ area (times 0 Open) (0x60 ∷ 0x00 ∷ 0x00 ∷ []) (accepted (times 0 Open) 3) (accepted (times 0 Open) 3)
    ∷ area_written (times 0 Open) (times 0 Open) (0x60 ∷ 0x00 ∷ 0x00 ∷ [])
    ∷ area (times 100 (Closed 200)) (0x00 ∷ 0x32 ∷ 0x00 ∷ 0x00 ∷ []) (refused 2) (accepted (times 150 (Closed 200)) 4)
    ∷ entry everything (0x40 ∷ 0x00 ∷ 0x00 ∷ 0x05 ∷ 0x07 ∷ digest) (accepted (at 5 7) 37) (accepted (at 5 7) 37)
    ∷ entry_written everything (at 5 7) (0x40 ∷ 0x00 ∷ 0x00 ∷ 0x05 ∷ 0x07 ∷ digest)
    ∷ entry everything (0x41 ∷ 0x00 ∷ 0x00 ∷ 0x05 ∷ 0x07 ∷ digest) (refused 2) (refused 2)
    ∷ range all (0x4D ∷ 0xC0 ∷ 0x00 ∷ 0x00 ∷ 0x00 ∷ []) (accepted all 5)
    ∷ range_written all all (0x4D ∷ 0xC0 ∷ 0x00 ∷ 0x00 ∷ 0x00 ∷ [])
    ∷ []
