-- Laws of the bytes that writers put: the components of a record one by one, a component after its length, the sizes, and a suffix by its parts.
use Rattle.codec.proofs.Prelude.{◌≡◌, ◌∙◌, List, ◌∷◌, ◌++◌, ℕ, ◌+◌, ◌-◌, ◌≤◌, arith, put_mid, length, take, drop, set, length-append, length-drop, length-set}
use Rattle.std.specs.Prelude.{Result, Ok}
use Rattle.codec.specs.declared.EncodeError.{EncodeError}
use Rattle.codec.specs.Answers.{outcome_of}
use Rattle.codec.specs.Format.{allowed, over, put_answer, put_buffer, write_answer}
use Rattle.codec.proofs.Lending.{put_over, put_done, put_end, to_end, over_then, over-cons}
use Rattle.compact_u64.specs.Number.{number_bytes, standalone_bytes, standalone}
use Rattle.path_suffix.specs.Header.{header_length, total_width, count_width, pack_tags}
use Rattle.path_suffix.specs.declared.Sizes.{Sizes}
use Rattle.path_suffix.specs.Suffix.{sizes_of, tags_of, sizes_bytes, sized_bytes, component_bytes, suffix_bytes}

-- ---- bytes put at the start of a buffer

-- a length and its component, one after the other
module _ (s l : List ℕ) (room : length (sized_bytes s) ≤ length l) where
  pub length_put : (r : Result ℕ EncodeError) → outcome_of r ≡ write_answer standalone (length s) (length l) → r ≡ Ok (length (standalone_bytes (length s)))
  length_put r e = put_done (standalone_bytes (length s)) (length l) r (omega (arith, length-append (standalone_bytes (length s)) s)) e

  pub sized_put : {first ys : List ℕ} (n k : ℕ) → n ≡ length (standalone_bytes (length s)) → k ≡ length s → first ≡ put_buffer allowed (standalone_bytes (length s)) l → ys ≡ s → put_mid n k first ys ≡ over (sized_bytes s) l
  sized_put n k long part e f =
      let bs = standalone_bytes (length s) in
      let h : length bs ≤ length l = omega (arith, length-append bs s) in
      rw (f, part, long, e, put_over bs l h) (over_then l bs s)

-- a byte set, then bytes
cons_put : (l bs : List ℕ) (x : ℕ) → 1 + length bs ≤ length l → take 1 (set l 0 x) ++ put_buffer allowed bs (drop 1 (set l 0 x)) ≡ over (x ∷ bs) l
cons_put l bs x h =
    let k : length bs ≤ length (drop 1 (set l 0 x)) = simp (length-drop, length-set) (omega arith) in
    rw (put_over bs (drop 1 (set l 0 x)) k) (over-cons l bs x (omega arith))

-- ---- a suffix, by its parts
pub sizes_long : (h : Sizes) → length (sizes_bytes h) ≡ header_length + (length (number_bytes total_width h.total) + length (number_bytes count_width h.count))
unfolding sizes_bytes
sizes_long h = simp length-append (omega arith)

-- the header byte, then both numbers
module _ (h : Sizes) (l : List ℕ) (room : length (sizes_bytes h) ≤ length l) (x : ℕ) where
  pub numbers_put : (r : Result ℕ EncodeError) → outcome_of r ≡ put_answer allowed (number_bytes total_width h.total ++ number_bytes count_width h.count) (length (take (length (set l 0 x) - 1) (drop 1 (set l 0 x))))
      → r ≡ Ok (length (number_bytes total_width h.total ++ number_bytes count_width h.count))
  numbers_put r e =
      put_done (number_bytes total_width h.total ++ number_bytes count_width h.count) (length (drop 1 (set l 0 x))) r
      (simp (length-append, length-drop, length-set) (omega (arith, sizes_long h))) (rw to_end at e)

  pub sizes_put : {ys : List ℕ} → x ≡ pack_tags (tags_of h) → ys ≡ put_buffer allowed (number_bytes total_width h.total ++ number_bytes count_width h.count) (take (length (set l 0 x) - 1) (drop 1 (set l 0 x)))
      → put_mid 1 (length (set l 0 x) - 1) (set l 0 x) ys ≡ over (sizes_bytes h) l
  unfolding sizes_bytes
  sizes_put {ys} tags e =
      let f = rw to_end at e in
      put_end 1 (set l 0 x) ys ∙ rw (f, ← tags) (cons_put l (number_bytes total_width h.total ++ number_bytes count_width h.count) x (simp length-append (omega (arith, sizes_long h))))

pub suffix_parts : (cs : List (List ℕ)) → length (suffix_bytes cs) ≡ length (sizes_bytes (sizes_of cs)) + length (component_bytes cs)
unfolding suffix_bytes
suffix_parts cs = length-append (sizes_bytes (sizes_of cs)) (component_bytes cs)

pub suffix_put : (l : List ℕ) (cs : List (List ℕ))
    → take (length (sizes_bytes (sizes_of cs))) (over (sizes_bytes (sizes_of cs)) l)
    ++ over (component_bytes cs) (drop (length (sizes_bytes (sizes_of cs))) (over (sizes_bytes (sizes_of cs)) l))
    ≡ over (suffix_bytes cs) l
unfolding suffix_bytes
suffix_put l cs = over_then l (sizes_bytes (sizes_of cs)) (component_bytes cs)
