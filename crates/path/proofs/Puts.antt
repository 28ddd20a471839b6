-- Laws of writing the parts of a record one after another.
use Rattle.codec.proofs.Prelude.{◌≡◌, refl, sym, ap, ◌∙◌, List, [], ◌∷◌, ◌++◌, append_assoc, append-nil, ℕ, suc, ◌+◌, ◌-◌, ◌≤◌, ◌<◌, add-one, arith, put_mid, length, take, drop, get_or, set, length-append, length-drop, drop_of_length-le, drop-cons, set_at}
use Rattle.codec.specs.Format.{allowed, put_buffer}
use Rattle.codec.proofs.Lending.{put_over, over_then, to_end, put_end}
use Rattle.compact_u64.specs.BigEndian.{big_endian}
use Rattle.compact_u64.proofs.BigEndian.{length-big_endian}
use Rattle.path.specs.Puts.{Puts}

-- bytes that were put where there is room
pub puts_put : {bs l left : List ℕ} (n : ℕ) → length bs ≡ n → n ≤ length l → left ≡ put_buffer allowed bs l → Puts n bs l left
puts_put {bs} {l} n long room e = record { long = long; is = e ∙ put_over bs l (omega arith) }

pub puts_number : {l left : List ℕ} (n v : ℕ) → n ≤ length l → left ≡ put_buffer allowed (big_endian n v) l → Puts n (big_endian n v) l left
puts_number n v room e = puts_put n (length-big_endian n v) room e

pub puts_first : (l : List ℕ) (x : ℕ) → 1 ≤ length l → Puts 1 (x ∷ []) l (set l 0 x)
puts_first [] x h = absurd (omega arith)
puts_first (y ∷ l) x h = record { long = refl; is = refl }

-- a part changes no length, and a whole record leaves nothing of what was lent
pub puts_long : {n : ℕ} {bs l left : List ℕ} → Puts n bs l left → n ≤ length l → length left ≡ length l
puts_long {n} {bs} {l} {left} p h = ap length p.is ∙ rw (length-append, length-drop) (omega (arith, p.long))

pub puts_whole : {n : ℕ} {bs l left : List ℕ} → Puts n bs l left → length l ≤ n → left ≡ bs
puts_whole {n} {bs} {l} {left} p h =
    let h' : length l ≤ length bs = omega (arith, p.long) in
    let e : drop (length bs) l ≡ [] = drop_of_length-le l h' in
    p.is ∙ rw e (append-nil bs)

pub puts_as : {n : ℕ} {cs bs l left : List ℕ} → Puts n cs l left → cs ≡ bs → Puts n bs l left
puts_as p e = rw e at p

-- ---- one part after another
module _ {na : ℕ} {a l l₁ : List ℕ} (p : Puts na a l l₁) where
  pub puts_then : {nb : ℕ} {b m : List ℕ} → Puts nb b (drop na l₁) m → Puts (na + nb) (a ++ b) l (take na l₁ ++ m)
  puts_then {nb} {b} {m} q = record {
    long = rw (length-append, p.long, q.long);
    is = ap (λ (x : List ℕ). take na l₁ ++ x) q.is ∙ rw (p.is, ← p.long) (over_then l a b);
  }

  -- the next part was lent all that is left
  pub puts_tail : {nb : ℕ} {b m : List ℕ} → Puts nb b (take (length l₁ - na) (drop na l₁)) m → Puts (na + nb) (a ++ b) l (put_mid na (length l₁ - na) l₁ m)
  puts_tail {nb} {b} {m} q = rw put_end (puts_then (rw to_end at q))

  -- a byte more
  pub puts_byte : (x : ℕ) → na < length l → Puts (na + 1) (a ++ (x ∷ [])) l (set l₁ na x)
  puts_byte x h =
      let e : l₁ ≡ a ++ (get_or l (length a) 0 ∷ drop (suc (length a)) l) = p.is ∙ ap (λ (t : List ℕ). a ++ t) (drop-cons l (length a) 0 (omega (arith, p.long))) in
      let s : set l₁ na x ≡ a ++ (x ∷ drop (suc (length a)) l) =
      ap (λ (t : List ℕ). set t na x) e ∙ set_at a (get_or l (length a) 0) (drop (suc (length a)) l) x na p.long in
      let long : length (a ++ (x ∷ [])) ≡ suc (length a) = length-append a (x ∷ []) ∙ add-one (length a) in
      record { long = long ∙ ap suc p.long ∙ sym (add-one na); is = s ∙ rw long (sym (append_assoc a (x ∷ []) (drop (suc (length a)) l))) }

  -- and room in what is left
  pub room_after : (m : ℕ) → na + m ≤ length l → m ≤ length (take (length l₁ - na) (drop na l₁))
  room_after m h = rw (to_end na l₁, length-drop) (omega (arith, puts_long p (omega arith)))
