-- The record of values within their limits is typed and well formed, and its values are these.
use Rattle.codec.proofs.Prelude.{◌≡◌, refl, List, true, ℕ}
use Rattle.std.specs.Prelude.{Option, Some, None}
use Rattle.path.specs.Limits.{PathOk}
use Rattle.path.specs.Record.{components_of, path_from, well_formed, TypedPath}
use Rattle.path.proofs.Record.{components_of_lem, well_made}
use Rattle.range_3d.specs.Range3d.{Range3dValue, end_named, end_passes, OnEnd}
use Rattle.range_3d.specs.Record.{paths_from, range_of, range_from, well_formed_range3d, TypedRange3d}
use Rattle.range_3d.proofs.Facts.{ValueOk}

end_from : (e : Option (List (List ℕ))) → OnEnd PathOk e → OnEnd TypedPath (end_named path_from e) × (end_passes well_formed (end_named path_from e) ≡ true)
end_from None ok = (tt, refl)
end_from (Some cs) ok = well_made cs ok

end_back : (e : Option (List (List ℕ))) → end_named components_of (end_named path_from e) ≡ e
end_back None = refl
end_back (Some cs) = rw (components_of_lem cs)

pub range_from_lem : (v : Range3dValue) → ValueOk v → TypedRange3d (range_from v) × (well_formed_range3d (range_from v) ≡ true)
unfolding range_from paths_from
range_from_lem v ok =
    let s = well_made v.paths.start ok.paths.start in
    let e = end_from v.paths.end ok.paths.end in
    (record { subspaces = ok.subspaces; paths = record { start = s.0; end = e.0 }; times = ok.times }, rw (s.1, e.1))

pub values_back : (v : Range3dValue) → range_of (range_from v) ≡ v
unfolding range_from paths_from
values_back v = rw (components_of_lem v.paths.start, end_back v.paths.end)
