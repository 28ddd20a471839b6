-- The plain path is a lawful format, and reads back leniently too.
use Rattle.codec.proofs.Prelude.{◌≡◌, refl, ◌∙◌, List, Bool, true, false, ℕ, arith, le-leb, length}
use Rattle.std.specs.Prelude.{Result, Err}
use Rattle.codec.specs.declared.EncodeError.{EncodeError}
use Rattle.codec.specs.declared.EncodeError.TheVariants as encoding
use Rattle.codec.specs.Answers.{refused_writing}
use Rattle.codec.specs.Format.{Valid, Writes, WritesInto, refused_value, length_answer}
use Rattle.codec.proofs.Lending.{length_refused_value, same_length, same_writing, writes_into, told_refused}
use Rattle.codec.specs.Reader.{Reader, mapped}
use Rattle.codec.specs.Reads.{ReadsBack}
use Rattle.codec.specs.Lawful.{Lawful}
use Rattle.codec.specs.Demand3.{Demand3}
use Rattle.codec.proofs.Readers.{reads_as, back_as, mapped_back}
use Rattle.codec.proofs.Lawful.{verdict_allowed, lawful_of, reshaped_lawful, reshaped_back}
use Rattle.codec.proofs.Demand3.{demand3}
use Rattle.path.specs.Record.{Path, components_of, path_from, sized, well_formed, TypedPath}
use Rattle.path.specs.Limits.{total_of, limits, path_ok, PathOk, TypedComponents}
use Rattle.path.proofs.Limits.{limits_total, limits_count, limits_of, path_ok_lem, ok_path, typed_of}
use Rattle.path.proofs.Record.{well_formed_lem, formed_well, apart_path, made_path, components_of_lem}
use Rattle.path.proofs.Components.{well_sized}
use Rattle.path_suffix.specs.Suffix.{suffix_bytes, read_suffix, suffix_by}
use Rattle.path_suffix.proofs.Relations.{SuffixAs}
use Rattle.path_suffix.proofs.Suffix.{suffix_reads, suffix_back, suffix_empty}
use Rattle.path_codec.specs.Plain.{on_records, plain_path, read_path}
use Rattle.path_codec.proofs.Components.{on_components}

-- ---- a lawful format on components is one on records
module _ (inside : List (List ℕ) → Bool) (encode : List (List ℕ) → List ℕ) where
  record_out : (p : Path) → Valid TypedPath (on_records inside encode) p → Valid TypedComponents (on_components inside encode) (components_of p) × (path_from (components_of p) ≡ p)
  record_out p v =
      let ok = verdict_allowed (well_formed p) (inside (components_of p)) v.allows in
      let x = apart_path p v.typed (well_formed_lem p ok.0) in
      (record { typed = typed_of (components_of p) x.ok.all; allows = rw (ok_path (components_of p) x.ok, ok.1) }, x.made)

  record_in : (cs : List (List ℕ)) → Valid TypedComponents (on_components inside encode) cs → Valid TypedPath (on_records inside encode) (path_from cs) × (components_of (path_from cs) ≡ cs)
  record_in cs v =
      let ok = verdict_allowed (path_ok cs) (inside cs) v.allows in
      let x = made_path cs (path_ok_lem cs v.typed ok.0) in
      (record { typed = x.typed; allows = rw (formed_well (path_from cs) x.well, components_of_lem cs, ok.1) }, components_of_lem cs)

  pub on_records_lem : (strict : Reader (List (List ℕ))) → Lawful TypedComponents (on_components inside encode) strict → Lawful TypedPath (on_records inside encode) (mapped path_from strict)
  on_records_lem strict L = reshaped_lawful TypedComponents (on_components inside encode) TypedPath components_of path_from (on_records inside encode).check record_out record_in strict L

  -- and what reads back as components reads back as records
  pub back_on_records : (r : Reader (List (List ℕ))) → ReadsBack r (Writes TypedComponents (on_components inside encode)) → ReadsBack (mapped path_from r) (Writes TypedPath (on_records inside encode))
  back_on_records r R =
      back_as _ _ _ (mapped_back path_from r _ R)
      (reshaped_back TypedComponents (on_components inside encode) TypedPath components_of path_from (on_records inside encode).check record_out record_in)

-- ---- the plain path

plain_there : (cs : List (List ℕ)) (e : List ℕ) → SuffixAs limits cs e → Writes TypedComponents (on_components (λ cs. true) suffix_bytes) cs e
plain_there cs e s =
    let p : PathOk cs = record { total = limits_total (total_of cs) (length cs) s.limited; count = limits_count (total_of cs) (length cs) s.limited; all = s.all } in
    record { valid = record { typed = typed_of cs s.all; allows = rw (ok_path cs p) }; bytes = s.bytes }

plain_back : (cs : List (List ℕ)) (e : List ℕ) → Writes TypedComponents (on_components (λ cs. true) suffix_bytes) cs e → SuffixAs limits cs e
plain_back cs e w =
    let p : PathOk cs = path_ok_lem cs w.valid.typed (verdict_allowed (path_ok cs) true w.valid.allows).0 in
    record {
      total = omega (arith, p.total);
      count = omega (arith, p.count);
      limited = limits_of (total_of cs) (length cs) p.total p.count;
      all = p.all;
      bytes = w.bytes;
    }

pub path_lawful : Lawful TypedPath plain_path (read_path true)
unfolding read_path
path_lawful = on_records_lem (λ cs. true) suffix_bytes (read_suffix true limits)
    (lawful_of TypedComponents (on_components (λ cs. true) suffix_bytes) (read_suffix true limits)
    (reads_as _ _ _ (suffix_reads limits) plain_there plain_back)
    (suffix_empty limits true))

pub path_demand3 : Demand3 TypedPath plain_path (read_path true)
path_demand3 = demand3 TypedPath plain_path (read_path true) path_lawful

-- leniently: read back whatever follows, cut short is 1
pub path_back : (canonic : Bool) → ReadsBack (read_path canonic) (Writes TypedPath plain_path)
unfolding read_path
path_back canonic = back_on_records (λ cs. true) suffix_bytes (read_suffix canonic limits) (back_as _ _ _ (suffix_back limits canonic) plain_back)

-- ---- a plain path is written as its suffix from the first component on
module _ (p : Path) where
  pub plain_malformed : well_formed p ≡ false → plain_path.check p ≡ refused_value 5
  plain_malformed w = rw w

  pub plain_check : well_formed p ≡ true → (suffix_by sized 0).check p ≡ plain_path.check p
  plain_check w = rw (w, well_sized p w, le-leb 0 p.count (omega arith))

  -- the length, and the writing, as the code makes them of the suffix
  pub plain_refused_length : well_formed p ≡ false → refused_writing 5 ≡ length_answer plain_path p
  plain_refused_length w = length_refused_value plain_path p 5 (plain_malformed w)

  pub plain_length : well_formed p ≡ true → length_answer (suffix_by sized 0) p ≡ length_answer plain_path p
  plain_length w = same_length (suffix_by sized 0) p plain_path (plain_check w) refl

  module _ (l : List ℕ) where
    pub plain_refused : well_formed p ≡ false → WritesInto plain_path p (Err encoding.Malformed) l l
    plain_refused w = told_refused plain_path p l encoding.Malformed (plain_refused_length w)

    pub plain_written : (r : Result ℕ EncodeError) (left : List ℕ) → well_formed p ≡ true → WritesInto (suffix_by sized 0) p r l left → WritesInto plain_path p r l left
    plain_written r left w put =
        let same = same_writing (suffix_by sized 0) p plain_path (plain_check w) refl l in
        writes_into (put.answer ∙ same.0, put.buffer ∙ same.1)
