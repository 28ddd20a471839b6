-- Records of areas and their values: each well-formed record is the record of its values, and back.
use Rattle.codec.proofs.Prelude.{◌≡◌, true}
use Rattle.path.specs.Limits.{PathOk}
use Rattle.path.specs.Record.{components_of, path_from}
use Rattle.path.proofs.Limits.{typed_of}
use Rattle.path.proofs.Record.{well_formed_lem, formed_well, apart_path, made_path, components_of_lem}
use Rattle.grouping.specs.Record.{Area, area_of, area_from, well_formed_area, TypedArea}
use Rattle.grouping.specs.Area.{AreaValue}
use Rattle.grouping.proofs.Values.{TypedValue}

pub record ApartArea (a : Area) : Type 0 where
  pub typed : TypedValue (area_of a)
  pub ok : PathOk (components_of a.path)
  pub made : area_from (area_of a) ≡ a

pub apart_area : (a : Area) → TypedArea a → well_formed_area a ≡ true → ApartArea a
unfolding area_from
apart_area a t w =
    let p = apart_path a.path t.path (well_formed_lem a.path w) in
    record {
      typed = record { subspace = t.subspace; path = typed_of (components_of a.path) p.ok.all; times = t.times };
      ok = p.ok;
      made = rw p.made;
    }

pub record MadeArea (v : AreaValue) : Type 0 where
  pub typed : TypedArea (area_from v)
  pub well : well_formed_area (area_from v) ≡ true
  pub back : area_of (area_from v) ≡ v

pub made_area : (v : AreaValue) → TypedValue v → PathOk v.path → MadeArea v
unfolding area_from
made_area v t ok =
    let p = made_path v.path ok in
    record {
      typed = record { subspace = t.subspace; path = p.typed; times = t.times };
      well = formed_well (path_from v.path) p.well;
      back = rw (components_of_lem v.path);
    }
