-- What the writers' definitions say at each step of the code.
use Rattle.codec.proofs.Prelude.{◌≡◌, sym, List, ◌++◌, append_assoc, true, false, ◌&&◌, ℕ, ◌+◌, ◌≤◌, arith, length, take, drop, length-append}
use Rattle.codec.specs.Answers.{wrote, refused_writing}
use Rattle.codec.specs.Format.{refused_value, over, write_answer, write_buffer}
use Rattle.codec.proofs.Lending.{put_wrote}
use Rattle.codec.proofs.Tests.{and_left, and_right}
use Rattle.path.specs.Record.{components_of, sized, well_formed}
use Rattle.path.proofs.Components.{well_sized}
use Rattle.path_relative.specs.Extension.{extension_bytes}
use Rattle.path_relative.specs.Records.{extends_by}
use Rattle.path_relative.proofs.Writing.{rest_refused_writing, rest_written}
use Rattle.grouping.specs.Record.{Area, area_of, head_of, well_formed_area}
use Rattle.grouping.specs.Area.{head_lies_inside}
use Rattle.grouping.proofs.Heads.{head_outside, head_inside}
use Rattle.area_times.specs.Times.{times_bytes}
use Rattle.area_area.specs.Area.{start_bytes, area_bytes}
use Rattle.area_area.specs.inside.Writing.{head_bytes}
use Rattle.area_area.specs.Records.{against_area}

-- ---- the verdict
module _ (r a : Area) where
  pub outside : (well_formed_area r && well_formed_area a) ≡ true → head_lies_inside (head_of r) (head_of a) ≡ false → (against_area r).check a ≡ refused_value 3
  outside w out = rw (w, head_outside r a out)

  both_sized : (well_formed_area r && well_formed_area a) ≡ true → (sized r.path && sized a.path) ≡ true
  both_sized w = rw (well_sized r.path (and_left _ (well_formed a.path) w), well_sized a.path (and_right (well_formed r.path) _ w))

  -- ---- what comes before the path, and the path
  area_bytes_lem : (against_area r).encode a ≡ head_bytes (head_of r) (head_of a) ++ (extends_by sized r.path).encode a.path
  unfolding area_bytes
  area_bytes_lem = sym (append_assoc (start_bytes (area_of r) (area_of a)) (times_bytes r.times a.times) (extension_bytes (components_of r.path) (components_of a.path)))

  pub area_longer : (n : ℕ) → n ≡ length (head_bytes (head_of r) (head_of a)) → n ≤ length ((against_area r).encode a)
  area_longer n en = rw area_bytes_lem (rw length-append (omega (arith, en)))

  -- ---- a well-formed area whose subspace and times lie inside is refused as its path is, and written as what comes before it and its path
  module _ (w : (well_formed_area r && well_formed_area a) ≡ true) (in_head : head_lies_inside (head_of r) (head_of a) ≡ true) where
    pub as_path : (against_area r).check a ≡ (extends_by sized r.path).check a.path
    as_path = rw (w, both_sized w, head_inside r a in_head)

    module _ (n : ℕ) (en : n ≡ length (head_bytes (head_of r) (head_of a))) where
      pub area_long : (m : ℕ) → m ≡ length ((extends_by sized r.path).encode a.path) → n + m ≡ length ((against_area r).encode a)
      area_long m em = rw area_bytes_lem (rw length-append (omega (arith, en, em)))

      module _ (l : List ℕ) (h : n ≤ length l) where
        pub area_refused : (why : ℕ) (ys : List ℕ) → write_answer (extends_by sized r.path) a.path (length (drop n l)) ≡ refused_writing why
            → ys ≡ write_buffer (extends_by sized r.path) a.path (drop n l)
            → (refused_writing why ≡ write_answer (against_area r) a (length l)) × (take n l ++ ys ≡ write_buffer (against_area r) a l)
        area_refused why ys e put =
            rw (as_path, area_bytes_lem) (rest_refused_writing (head_bytes (head_of r) (head_of a))
            ((extends_by sized r.path).encode a.path) l n en h ((extends_by sized r.path).check a.path) why ys e put)

        pub area_written : (m : ℕ) (ys : List ℕ) → write_answer (extends_by sized r.path) a.path (length (drop n l)) ≡ wrote m
            → ys ≡ write_buffer (extends_by sized r.path) a.path (drop n l)
            → (wrote (n + m) ≡ write_answer (against_area r) a (length l))
            × (over (head_bytes (head_of r) (head_of a)) (take n l ++ ys) ≡ write_buffer (against_area r) a l)
        area_written m ys e put =
            let ok = (put_wrote ((extends_by sized r.path).check a.path) ((extends_by sized r.path).encode a.path) _ m e).allows in
            rw (as_path, ok, area_bytes_lem) (rest_written (head_bytes (head_of r) (head_of a))
            ((extends_by sized r.path).encode a.path) l n en h m ys (rw ok at e) (rw ok at put))
