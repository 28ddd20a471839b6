-- Both encodings are lawful against every well-formed path, and read back leniently too.
use Rattle.codec.proofs.Prelude.{◌≡◌, List, Bool, true, ℕ}
use Rattle.codec.specs.Format.{Writes}
use Rattle.codec.specs.Reads.{ReadsBack}
use Rattle.codec.specs.Lawful.{Lawful}
use Rattle.codec.specs.Demand3.{Demand3}
use Rattle.codec.proofs.Readers.{reads_as, back_as}
use Rattle.codec.proofs.Lawful.{verdict_allowed, lawful_of}
use Rattle.codec.proofs.Demand3.{demand3}
use Rattle.path.specs.Record.{Path, components_of, well_formed, TypedPath}
use Rattle.path.specs.Limits.{path_ok, PathOk, TypedComponents}
use Rattle.path.specs.Prefix.{is_prefix}
use Rattle.path.proofs.Limits.{path_ok_lem, ok_path, typed_of}
use Rattle.path.proofs.Record.{well_formed_lem, apart_path}
use Rattle.path.proofs.Prefix.{prefix_takes, takes_prefix}
use Rattle.path_codec.proofs.Components.{on_components}
use Rattle.path_codec.proofs.Plain.{on_records_lem, back_on_records}
use Rattle.path_relative.specs.Against.{against_bytes, read_against}
use Rattle.path_relative.proofs.Relations.{AgainstAs, ExtensionAs}
use Rattle.path_relative.specs.Extension.{extension_bytes, read_extension}
use Rattle.path_relative.specs.Records.{against_path, extends_path, read_against_path, read_extends_path}
use Rattle.path_relative.proofs.Against.{against_reads, against_back, against_empty}
use Rattle.path_relative.proofs.Extension.{extension_reads, extension_back, extension_empty}

module _ (r : Path) (t : TypedPath r) (w : well_formed r ≡ true) where
  reference : PathOk (components_of r)
  reference = (apart_path r t (well_formed_lem r w)).ok

  -- ---- against a path
  against_writes : (p : List (List ℕ)) (e : List ℕ) → AgainstAs (components_of r) p e → Writes TypedComponents (on_components (λ p. true) (against_bytes (components_of r))) p e
  against_writes p e a = record { valid = record { typed = typed_of p a.ok.all; allows = rw (ok_path p a.ok) }; bytes = a.bytes }

  writes_against : (p : List (List ℕ)) (e : List ℕ) → Writes TypedComponents (on_components (λ p. true) (against_bytes (components_of r))) p e → AgainstAs (components_of r) p e
  writes_against p e v = record { ok = path_ok_lem p v.valid.typed (verdict_allowed (path_ok p) true v.valid.allows).0; bytes = v.bytes }

  pub against_lawful : Lawful TypedPath (against_path r) (read_against_path true r)
  unfolding read_against_path
  against_lawful = rw w (on_records_lem (λ p. true) (against_bytes (components_of r)) (read_against true (components_of r))
      (lawful_of _ _ _ (reads_as _ _ _ (against_reads (components_of r) reference) against_writes writes_against) (against_empty (components_of r) true)))

  pub against_demand3 : Demand3 TypedPath (against_path r) (read_against_path true r)
  against_demand3 = demand3 TypedPath (against_path r) (read_against_path true r) against_lawful

  pub against_reads_back : (canonic : Bool) → ReadsBack (read_against_path canonic r) (Writes TypedPath (against_path r))
  unfolding read_against_path
  against_reads_back canonic = rw w (back_on_records (λ p. true) (against_bytes (components_of r)) (read_against canonic (components_of r))
      (back_as _ _ _ (against_back (components_of r) reference canonic) writes_against))

  -- ---- as an extension
  extension_writes : (p : List (List ℕ)) (e : List ℕ) → ExtensionAs (components_of r) p e → Writes TypedComponents (on_components (is_prefix (components_of r)) (extension_bytes (components_of r))) p e
  extension_writes p e x = record {
    valid = record { typed = typed_of p x.ok.all; allows = rw (ok_path p x.ok, takes_prefix (components_of r) p x.extends) };
    bytes = x.bytes;
  }

  writes_extension : (p : List (List ℕ)) (e : List ℕ) → Writes TypedComponents (on_components (is_prefix (components_of r)) (extension_bytes (components_of r))) p e → ExtensionAs (components_of r) p e
  writes_extension p e v =
      let ok = verdict_allowed (path_ok p) (is_prefix (components_of r) p) v.valid.allows in
      record { ok = path_ok_lem p v.valid.typed ok.0; extends = prefix_takes (components_of r) p ok.1; bytes = v.bytes }

  pub extends_lawful : Lawful TypedPath (extends_path r) (read_extends_path true r)
  unfolding read_extends_path
  extends_lawful = rw w (on_records_lem (is_prefix (components_of r)) (extension_bytes (components_of r)) (read_extension true (components_of r))
      (lawful_of _ _ _ (reads_as _ _ _ (extension_reads (components_of r) reference) extension_writes writes_extension) (extension_empty (components_of r) true)))

  pub extends_demand3 : Demand3 TypedPath (extends_path r) (read_extends_path true r)
  extends_demand3 = demand3 TypedPath (extends_path r) (read_extends_path true r) extends_lawful

  pub extends_reads_back : (canonic : Bool) → ReadsBack (read_extends_path canonic r) (Writes TypedPath (extends_path r))
  unfolding read_extends_path
  extends_reads_back canonic = rw w (back_on_records (is_prefix (components_of r)) (extension_bytes (components_of r)) (read_extension canonic (components_of r))
      (back_as _ _ _ (extension_back (components_of r) reference canonic) writes_extension))
