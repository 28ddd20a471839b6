-- Two writers, one after the other, where there is room for both: neither is refused.
use Rattle.codec.proofs.Prelude.{◌≡◌, refl, sym, ap, ◌∙◌, List, ◌++◌, ℕ, ◌+◌, ◌-◌, ◌≤◌, arith, put_mid, length, take, drop, length-append, length-drop}
use Rattle.codec.specs.Answers.{wrote, refused_writing}
use Rattle.codec.specs.Format.{allowed, put_answer, put_buffer}
use Rattle.codec.proofs.Lending.{put_fits, to_end, pair_put, written_is, wrote_not_refused_writing}

-- a writer that has room
module _ (bs l : List ℕ) (fits : length bs ≤ length l) where
  room_wrote : wrote (length bs) ≡ put_answer allowed bs (length l)
  room_wrote = (put_fits allowed bs l refl (length bs) refl fits).0

  room_not_refused : (k : ℕ) → refused_writing k ≡ put_answer allowed bs (length l) → ⊥
  room_not_refused k q = wrote_not_refused_writing (length bs) k (room_wrote ∙ sym q)

-- x and then y, which together are t, of so many bytes
module _ {t : List ℕ} (x y l : List ℕ) (e : t ≡ x ++ y) {whole : ℕ} (is : whole ≡ length t) (there : whole ≤ length l) where
  long : whole ≡ length x + length y
  long = is ∙ ap length e ∙ length-append x y

  first_fits : length x ≤ length l
  first_fits = omega (arith, long, there)

  pub first_not_refused : {k : ℕ} → refused_writing k ≡ put_answer allowed x (length l) → ⊥
  first_not_refused {k} q = room_not_refused x l first_fits k q

  -- after the first, n bytes, which left p
  module _ {n : ℕ} (q : wrote n ≡ put_answer allowed x (length l)) (p : List ℕ) (kept : length p ≡ length l) where
    first_long : n ≡ length x
    first_long = written_is n _ (q ∙ sym (room_wrote x l first_fits))

    pub second_starts : n ≤ length p
    second_starts = omega (arith, first_long, long, there, kept)

    second_fits : length y ≤ length (take (length p - n) (drop n p))
    second_fits = rw (to_end n p, length-drop) (omega (arith, first_long, long, there, kept))

    pub second_not_refused : {k : ℕ} → refused_writing k ≡ put_answer allowed y (length (take (length p - n) (drop n p))) → ⊥
    second_not_refused {k} s = room_not_refused y (take (length p - n) (drop n p)) second_fits k s

    pub both_put : p ≡ put_buffer allowed x l → (ys : List ℕ) → ys ≡ put_buffer allowed y (take (length p - n) (drop n p))
        → (wrote whole ≡ put_answer allowed t (length l)) × (put_mid n (length p - n) p ys ≡ put_buffer allowed t l)
    both_put first ys last = ((put_fits allowed t l refl whole is there).0, pair_put x y l e (omega (arith, is, there)) first_long first kept last)
