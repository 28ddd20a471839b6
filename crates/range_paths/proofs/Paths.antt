-- The laws of paths against the paths of a reference, all within the limits.
use Rattle.codec.proofs.Prelude.{refl, List, [], Bool, true, false, cond, ℕ, leb}
use Rattle.std.specs.Prelude.{Option, Some, None}
use Rattle.codec.specs.Reader.{choose, mapped}
use Rattle.codec.specs.Reads.{ReadsAs, Bounded}
use Rattle.codec.proofs.ReadsAs.{one_of, give_as, then_as, mapped_as}
use Rattle.codec.proofs.Bounded.{give_bounded, then_bounded, guard_bounded, mapped_bounded, choose_bounded}
use Rattle.path.specs.Limits.{PathOk}
use Rattle.path.specs.Prefix.{shared}
use Rattle.path_relative.specs.Against.{against_bytes, read_against}
use Rattle.path_relative.proofs.Against.{against_back, against_bounded}
use Rattle.range_3d.specs.declared.Range.{Range}
use Rattle.range_3d.specs.Range3d.{open_end, OnEnd, Both}
use Rattle.range_paths.specs.declared.Sides.{Sides}
use Rattle.range_paths.specs.Paths.{start_nearer, from_start, end_from_start, sides_of, nearer, path_bytes, end_bytes, paths_bytes, read_from_end, read_side, read_end, paths_up_to, read_paths}

-- ---- read back
against_as : (r p : List (List ℕ)) → PathOk r → PathOk p → ReadsAs (read_against false r) p (against_bytes r p)
against_as r p hr hp = one_of (against_back r hr false) (record { ok = hp; bytes = refl })

side_as : (start : List (List ℕ)) (end : Option (List (List ℕ))) (p : List (List ℕ)) → PathOk start → OnEnd PathOk end → PathOk p
    → ReadsAs (choose (start_nearer start end p) (read_against false start) (read_from_end end)) p (against_bytes (nearer start end p) p)
side_as start None p hs he hp = against_as start p hs hp
side_as start (Some end) p hs he hp = go (leb (shared end p) (shared start p))
  where
    go : (b : Bool) → ReadsAs (choose b (read_against false start) (read_against false end)) p (against_bytes (cond b start end) p)
    go true = against_as start p hs hp
    go false = against_as end p he hp

path_as : (r : Range (List (List ℕ))) (p : List (List ℕ)) → Both PathOk r → PathOk p → ReadsAs (read_side r (from_start r p)) p (path_bytes r p)
unfolding path_bytes
path_as r p hr hp = side_as r.start r.end p hr.start hr.end hp

end_as : (r : Range (List (List ℕ))) (end : Option (List (List ℕ))) → Both PathOk r → OnEnd PathOk end → ReadsAs (read_end r (open_end end) (end_from_start r end)) end (end_bytes r end)
end_as r None hr he = give_as None
end_as r (Some p) hr he = mapped_as (path_as r p hr he) Some

pub paths_as : (r v : Range (List (List ℕ))) → Both PathOk r → Both PathOk v → ReadsAs (read_paths r (open_end v.end) (sides_of r v)) v (paths_bytes r v)
unfolding read_paths sides_of paths_bytes
paths_as r v hr hv =
    then_as (path_as r v.start hr hv.start) (λ start. mapped (paths_up_to start) (read_end r (open_end v.end) (end_from_start r v.end)))
    (mapped_as (end_as r v.end hr hv.end) (paths_up_to v.start))

-- ---- no more is consumed than there is
module _ (r : Range (List (List ℕ))) where
  from_end_bounded : (end : Option (List (List ℕ))) → Bounded (read_from_end end)
  from_end_bounded None = guard_bounded false _ (give_bounded [])
  from_end_bounded (Some end) = against_bounded end false

  pub side_bounded : (from_start : Bool) → Bounded (read_side r from_start)
  side_bounded from_start = choose_bounded from_start _ _ (against_bounded r.start false) (from_end_bounded r.end)

  pub paths_bounded : (end_open : Bool) (s : Sides) → Bounded (read_paths r end_open s)
  unfolding read_paths
  paths_bounded end_open s =
      then_bounded (read_side r s.start_from_start) _ (side_bounded s.start_from_start) (λ start.
      mapped_bounded (paths_up_to start) _ (choose_bounded end_open _ _ (give_bounded None) (mapped_bounded Some _ (side_bounded s.end_from_start))))
