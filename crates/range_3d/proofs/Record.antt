-- Records of ranges and their values: each well-formed record is the record of its values.
use Rattle.codec.proofs.Prelude.{◌≡◌, refl, true}
use Rattle.std.specs.Prelude.{Option, Some, None}
use Rattle.codec.proofs.Tests.{and_left, and_right}
use Rattle.path.specs.Record.{Path, components_of, path_from, sized, well_formed, TypedPath}
use Rattle.path.specs.Limits.{PathOk}
use Rattle.path.proofs.Record.{well_formed_lem, apart_path}
use Rattle.path.proofs.Components.{well_sized}
use Rattle.range_3d.specs.declared.Range.{Range}
use Rattle.range_3d.specs.Range3d.{end_named, end_passes, OnEnd, Both}
use Rattle.range_3d.specs.Record.{Range3d, paths_of, paths_from, range_of, range_from, well_formed_paths, well_formed_range3d, sized_paths, TypedRange3d}
use Rattle.range_3d.specs.inside.Sizes.{sized_range3d}

-- ---- a path
path_ok_lem : (p : Path) → TypedPath p → well_formed p ≡ true → PathOk (components_of p)
path_ok_lem p t w = (apart_path p t (well_formed_lem p w)).ok

path_made : (p : Path) → TypedPath p → well_formed p ≡ true → path_from (components_of p) ≡ p
path_made p t w = (apart_path p t (well_formed_lem p w)).made

-- ---- an end
end_sized : (e : Option Path) → end_passes well_formed e ≡ true → end_passes sized e ≡ true
end_sized None w = refl
end_sized (Some p) w = well_sized p w

end_ok : (e : Option Path) → OnEnd TypedPath e → end_passes well_formed e ≡ true → OnEnd PathOk (end_named components_of e)
end_ok None t w = tt
end_ok (Some p) t w = path_ok_lem p t w

end_made : (e : Option Path) → OnEnd TypedPath e → end_passes well_formed e ≡ true → end_named path_from (end_named components_of e) ≡ e
end_made None t w = refl
end_made (Some p) t w = rw (path_made p t w)

-- ---- paths
pub well_sized_paths : (p : Range Path) → well_formed_paths p ≡ true → sized_paths p ≡ true
well_sized_paths p w = rw (well_sized p.start (and_left _ _ w)) (end_sized p.end (and_right (well_formed p.start) _ w))

module _ (p : Range Path) (t : Both TypedPath p) (w : well_formed_paths p ≡ true) where
  pub paths_ok : Both PathOk (paths_of p)
  paths_ok = record { start = path_ok_lem p.start t.start (and_left _ _ w); end = end_ok p.end t.end (and_right (well_formed p.start) _ w) }

  pub made_paths : paths_from (paths_of p) ≡ p
  unfolding paths_from
  made_paths = rw (path_made p.start t.start (and_left _ _ w), end_made p.end t.end (and_right (well_formed p.start) _ w))

-- ---- 3d ranges
pub well_sized_range : (r : Range3d) → well_formed_range3d r ≡ true → sized_range3d r ≡ true
unfolding sized_range3d
well_sized_range r w = well_sized_paths r.paths w

pub made_range : (r : Range3d) → TypedRange3d r → well_formed_range3d r ≡ true → range_from (range_of r) ≡ r
unfolding range_from
made_range r t w = rw (made_paths r.paths t.paths w)
