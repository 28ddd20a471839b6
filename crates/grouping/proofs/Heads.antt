-- What areas have beside their paths tells all of "lies inside" but the prefix.
use Rattle.codec.proofs.Prelude.{◌≡◌, refl, Bool, true, false, ◌&&◌}
use Rattle.path.specs.Record.{components_of}
use Rattle.path.specs.Prefix.{is_prefix}
use Rattle.grouping.specs.Range.{end_value, includes_range, bounds}
use Rattle.grouping.specs.Area.{includes_subspace, includes_area, area_lies_inside, head_lies_inside}
use Rattle.grouping.specs.Record.{Area, area_of, head_of}

module _ (r a : Area) where
  pub head_outside : head_lies_inside (head_of r) (head_of a) ≡ false → area_lies_inside (area_of r) (area_of a) ≡ false
  unfolding head_lies_inside includes_area area_lies_inside
  head_outside e =
      go (includes_subspace r.subspace a.subspace) (is_prefix (components_of r.path) (components_of a.path)) (includes_range r.times a.times)
      (bounds r.times a.times.start && bounds r.times (end_value a.times.end)) e
    where
      go : (s p t b : Bool) → (s && (t && b)) ≡ false → (s && (p && t) && b) ≡ false
      go true true true b e = e
      go true true false b e = refl
      go true false t b e = refl
      go false p t b e = refl

  pub head_inside : head_lies_inside (head_of r) (head_of a) ≡ true → area_lies_inside (area_of r) (area_of a) ≡ is_prefix (components_of r.path) (components_of a.path)
  unfolding head_lies_inside includes_area area_lies_inside
  head_inside e =
      go (includes_subspace r.subspace a.subspace) (is_prefix (components_of r.path) (components_of a.path)) (includes_range r.times a.times)
      (bounds r.times a.times.start && bounds r.times (end_value a.times.end)) e
    where
      go : (s p t b : Bool) → (s && (t && b)) ≡ true → (s && (p && t) && b) ≡ p
      go true true true b e = e
      go true true false b e = e
      go true false t b e = refl
      go false true t b e = e
      go false false t b e = refl
