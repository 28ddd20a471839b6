-- Laws of numbers of two bytes each.
use Rattle.codec.proofs.Prelude.{◌≡◌, sym, ap, ◌∙◌, List, [], ◌∷◌, ◌++◌, append_assoc, append-nil, ℕ, suc, ◌+◌, ◌*◌, ◌<◌, add-one, arith, length, take, drop, get_or, drop-cons, take-suc}
use Rattle.compact_u64.specs.BigEndian.{big_endian, value_of}
use Rattle.path.specs.Flat.{shorts}

-- ---- one more written
shorts_snoc : (vs : List ℕ) (v : ℕ) → shorts (vs ++ (v ∷ [])) ≡ shorts vs ++ big_endian 2 v
shorts_snoc [] v = append-nil (big_endian 2 v)
shorts_snoc (x ∷ vs) v = ap (λ (l : List ℕ). big_endian 2 x ++ l) (shorts_snoc vs v) ∙ sym (append_assoc (big_endian 2 x) (shorts vs) (big_endian 2 v))

pub shorts_next : (vs : List ℕ) (i : ℕ) → i < length vs → shorts (take i vs) ++ big_endian 2 (get_or vs i 0) ≡ shorts (take (i + 1) vs)
shorts_next vs i h = rw (add-one, take-suc vs i 0) (sym (shorts_snoc (take i vs) (get_or vs i 0)))

-- ---- one more read
pub short_there : (s : List ℕ) (i : ℕ) → i + 1 < length s → get_or s i 0 * 256 + get_or s (i + 1) 0 ≡ value_of (take 2 (drop i s))
short_there s i h =
    let first : i < length s = omega arith in
    let second : suc i < length s = omega arith in
    rw (drop-cons s i 0 first, drop-cons s (suc i) 0 second, add-one i) (omega arith)
