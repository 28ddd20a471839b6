-- The path of an area that is read is well formed, in either mode.
use Rattle.codec.proofs.Prelude.{◌≡◌, refl, Bool, true, false, cond, not, ℕ, arith}
use Rattle.codec.specs.Header.{read_header}
use Rattle.codec.specs.Reader.{mapped, on_formed}
use Rattle.codec.specs.Reads.{Yields}
use Rattle.codec.proofs.Yields.{yields_as, then_yields, guard_yields, mapped_yields}
use Rattle.path.specs.Record.{well_formed, TypedPath}
use Rattle.path.specs.Limits.{PathOk}
use Rattle.path.proofs.Record.{well_formed_lem, apart_path, well_made}
use Rattle.path_relative.proofs.Yields.{extension_yields}
use Rattle.grouping.specs.Record.{Area, area_of, area_from, well_formed_area}
use Rattle.grouping.specs.Area.{AreaValue}
use Rattle.area_times.specs.Header.{unpack_header, spare_bits}
use Rattle.area_times.specs.Times.{read_times}
use Rattle.area_area.specs.Area.{read_subspace, value_from, read_parts, read_area}
use Rattle.area_area.specs.Records.{read_against_area}

value_yields : (r : AreaValue) → PathOk r.path → (canonic : Bool) → Yields (read_area canonic r) (λ v. PathOk v.path)
unfolding read_area read_parts
value_yields r ok canonic =
    then_yields (read_header unpack_header) _ (λ h. Unit {0}) _ (record { holds = λ s a n h e. tt }) (λ h x.
    guard_yields (cond canonic (not (spare_bits h)) true) _ _ (λ y.
    then_yields (read_subspace canonic r.subspace h.id_written) _ (λ s. Unit {0}) _ (record { holds = λ s a n h e. tt }) (λ s x.
    then_yields (read_times canonic r.times h) _ (λ u. Unit {0}) _ (record { holds = λ s a n h e. tt }) (λ u x.
    mapped_yields (value_from s u) _ _ (extension_yields r.path ok canonic)))))

abbrev PathWell : Area → Type 0
PathWell a = TypedPath a.path × (well_formed a.path ≡ true)

value_well : (v : AreaValue) → PathOk v.path → PathWell (area_from v)
unfolding area_from
value_well v ok = well_made v.path ok

pub area_yields : (r : Area) → TypedPath r.path → (canonic : Bool) → Yields (read_against_area canonic r) PathWell
unfolding read_against_area
area_yields r t canonic = by_cases (well_formed_area r) refl
  where
    by_cases : (b : Bool) → well_formed_area r ≡ b → Yields (on_formed b (mapped area_from (read_area canonic (area_of r)))) PathWell
    by_cases true w =
        let x = apart_path r.path t (well_formed_lem r.path w) in
        mapped_yields area_from _ PathWell (yields_as _ _ _ (value_yields (area_of r) x.ok canonic) value_well)
    by_cases false w = record { holds = λ s a n h e. let z : ◌≡◌ {A = ℕ} 0 1 = cc in absurd (omega arith) }
