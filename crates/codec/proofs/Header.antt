-- The laws that all headers share. None knows a place: a layout's own laws are computed over all bytes (`same_bytes_lem`) or told by `omega`.
use Rattle.codec.proofs.Prelude.{◌≡◌, refl, sym, ap, ◌∙◌, [], ◌∷◌, Bool, true, false, cond, ℕ, zero, suc, ◌-◌, ◌/◌, ◌^◌, ◌≤◌, ◌<◌, arith, mod-lt, eqb, pow_mono, eqb-true, eqb-false}
use Rattle.codec.specs.Reader.{one_byte}
use Rattle.codec.specs.Reads.{Reads}
use Rattle.codec.proofs.Relations.{OneByte, HeaderAs}
use Rattle.codec.specs.Header.{bits_at, flag, bit, Layout, read_header, every}
use Rattle.codec.proofs.Readers.{reads_as, mapped_reads, one_byte_reads}

-- a number from a header fits its bits
pub field_fits : (at wide b : ℕ) → bits_at at wide b < 2 ^ wide
field_fits at wide b = mod-lt (b / 2 ^ (8 - at - wide)) (omega (arith, pow_mono {i = 0} {j = wide} (omega arith)))

pub bit_small : (x : Bool) → bit x ≤ 1
bit_small true = omega arith
bit_small false = omega arith

-- a flag that was packed
pub flag_of : (at b : ℕ) (x : Bool) → bits_at at 1 b ≡ bit x → flag at b ≡ x
flag_of at b true e = rw e
flag_of at b false e = rw e

-- ---- laws computed over all bytes
every_holds : (n : ℕ) (t : ℕ → Bool) → every n t ≡ true → (i : ℕ) → i < n → t i ≡ true
every_holds zero t h i l = absurd (omega arith)
every_holds (suc n) t h i l = go (t n) refl (eqb i n) refl h (λ k j. every_holds n t k i j)
  where
    go : (x : Bool) → t n ≡ x → (same : Bool) → eqb i n ≡ same → cond x (every n t) false ≡ true → (every n t ≡ true → i < n → t i ≡ true) → t i ≡ true
    go true p true q k ih = let e : i ≡ n = eqb-true i n q in rw e p
    go true p false q k ih = ih k (let ne : i ≡ n → ⊥ = eqb-false i n q in omega arith)
    go false p same q k ih = let z : false ≡ true = k in cc

pub same_bytes_lem : (f g : ℕ → ℕ) → every 256 (λ b. eqb (f b) (g b)) ≡ true → (b : ℕ) → b < 256 → f b ≡ g b
same_bytes_lem f g h b l = eqb-true (f b) (g b) (every_holds 256 (λ b. eqb (f b) (g b)) h b l)

-- ---- reading a header
pub header_reads : {H : Type 0} (Fits : H → Type 0) (unpack : ℕ → H) (pack : H → ℕ) → Layout Fits unpack pack → Reads (read_header unpack) (HeaderAs Fits pack)
header_reads Fits unpack pack L = reads_as (read_header unpack) _ (HeaderAs Fits pack)
    (mapped_reads unpack one_byte OneByte one_byte_reads)
    (λ h e m. rw (← m.named) (L.fits m.value m.stands.0, m.stands.1 ∙ ap (λ (b : ℕ). b ∷ []) (sym (L.packs m.value m.stands.0))))
    (λ h e w. record { value = pack h; named = L.unpacks h w.0; stands = (L.byte h w.0, w.1) })
