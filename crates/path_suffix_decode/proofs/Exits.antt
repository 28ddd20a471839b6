-- What the readers' definitions answer at each exit of the code, at plain values.
use Rattle.codec.proofs.Prelude.{◌≡◌, refl, List, Bool, true, false, ℕ, ◌+◌, ◌≤◌, ◌<◌, add-one, add_assoc, arith, leb, leb-true, leb-false, length, drop, get_or, drop_of_length-le, length-drop, drop-cons, drop-drop}
use Rattle.codec.specs.Answers.{accepted, refused}
use Rattle.compact_u64.specs.Number.{read_number}
use Rattle.path_suffix.specs.Header.{header_length, total_width, count_width, unpack_tags}
use Rattle.path_suffix.specs.declared.Sizes.{Sizes}
use Rattle.path_suffix.specs.Suffix.{sizes_from, read_sizes}
use Rattle.path_suffix.proofs.Header.{sizes_bounded}

-- ---- the header byte and both numbers
module _ (canonic : Bool) (s : List ℕ) (i : ℕ) where
  pub sizes_none : length s ≤ i → read_sizes canonic (drop i s) ≡ refused 1
  unfolding read_sizes
  sizes_none h = rw (drop_of_length-le s h)

  module _ (h : i < length s) where
    pub sizes_first : (k : ℕ) → read_number canonic total_width (unpack_tags (get_or s i 0)).total (drop (i + header_length) s) ≡ refused k → read_sizes canonic (drop i s) ≡ refused k
    unfolding read_sizes
    sizes_first k e = rw (drop-cons s i 0 h, ← add-one i, e)

    module _ (total a : ℕ) (e : read_number canonic total_width (unpack_tags (get_or s i 0)).total (drop (i + header_length) s) ≡ accepted total a) where
      pub sizes_second : (k : ℕ) → read_number canonic count_width (unpack_tags (get_or s i 0)).count (drop (i + header_length + a) s) ≡ refused k → read_sizes canonic (drop i s) ≡ refused k
      unfolding read_sizes
      sizes_second k f = rw (drop-cons s i 0 h, ← add-one i, e, drop-drop, f)

      pub sizes_both : (count b : ℕ) → read_number canonic count_width (unpack_tags (get_or s i 0)).count (drop (i + header_length + a) s) ≡ accepted count b
          → read_sizes canonic (drop i s) ≡ accepted (sizes_from total count) (header_length + a + b)
      unfolding read_sizes
      sizes_both count b f = rw (drop-cons s i 0 h, ← add-one i, e, drop-drop, f, add_assoc)

  -- sizes that were read lie within the bytes, also where i does not
  pub sizes_inside : (h : Sizes) (n : ℕ) → read_sizes canonic (drop i s) ≡ accepted h n → i + n ≤ length s
  sizes_inside h n e = go (leb (length s) i) refl
    where
      go : (b : Bool) → leb (length s) i ≡ b → i + n ≤ length s
      go true f = let g = sizes_none (leb-true (length s) i f) in let z : ◌≡◌ {A = ℕ} 0 1 = cc in absurd (omega arith)
      go false f = omega (arith, leb-false (length s) i f, (sizes_bounded canonic).bound (drop i s) h n e, length-drop i s)
