-- Laws of texts put into a buffer, one after another.
use Rattle.codec.proofs.Prelude.{◌≡◌, refl, sym, ap, ◌∙◌, List, [], ◌∷◌, ◌++◌, ℕ, ◌+◌, ◌-◌, ◌*◌, ◌≤◌, arith, le-leb, length, take, drop, length-append, length-drop, take_at, length-take-le}
use Rattle.text.specs.Buffer.{over_at, put_at, place_after}
use Rattle.text.proofs.Buffer.{over_at_then, over_at_long, put_at_fits}
use Rattle.text.specs.Hex.{hex_text}
use Rattle.text.proofs.HexSteps.{hex_text_long}
use Rattle.case_text.specs.Limits.{max_bytes}
use Rattle.case_text.specs.declared.texts.Text.{Text}
use Rattle.case_text.specs.Bytes.{text_of}
use Rattle.case_text.specs.Texts.{after_tab}
use Rattle.case_text.specs.Answers.{PutsText, PutsWithin}

-- ---- how long texts are at most
pub hex_few : (s : List ℕ) → length s ≤ max_bytes → length (hex_text s) ≤ 2 * max_bytes
hex_few s few = rw hex_text_long (omega (arith, few))

pub text_hex_few : (t : Text) → length (hex_text (text_of t)) ≤ 2 * max_bytes
text_hex_few t = hex_few (text_of t) t.few

-- ---- a put of the crate text, where there is room
pub puts_fits : {at r : ℕ} (t : List ℕ) {l l' : List ℕ} → at + length t ≤ length l → (r ≡ place_after at t l) × (l' ≡ put_at at t l) → PutsText at t l l' r
puts_fits {at} t {l} h e =
    let f = put_at_fits at t l h in
    record { place = e.0 ∙ sym f.0; buffer = e.1 ∙ sym f.1 }

-- one text after another
pub puts_then : {at p q : ℕ} {a b l m n : List ℕ} → at ≤ length l → PutsText at a l m p → PutsText p b m n q → PutsText at (a ++ b) l n q
puts_then {at} {p} {q} {a} {b} {l} h x y =
    let xp = x.place in
    record {
      place = y.place ∙ rw (length-append a b) (omega arith);
      buffer = y.buffer ∙ rw (x.buffer, xp) (over_at_then at a b l h);
    }

-- two puts of the crate text, where there is room for a second text of at most k bytes
pub puts_two : {at p q : ℕ} (a b : List ℕ) {l m n : List ℕ} (k : ℕ) → length b ≤ k → at + (length a + k) ≤ length l
    → (p ≡ place_after at a l) × (m ≡ put_at at a l) → (q ≡ place_after p b m) × (n ≡ put_at p b m)
    → PutsText at (a ++ b) l n q × (q ≤ at + (length a + k))
puts_two {at} a b {l} {m} k few h e g =
    let x = puts_fits a (omega arith) e in
    let xp = x.place in
    let xb = x.buffer in
    let long : length m ≡ length l = rw xb (over_at_long at a l (omega arith)) in
    let y = puts_fits b (omega arith) g in
    (puts_then (omega arith) x y, omega (arith, y.place))

-- a text after a tab
pub puts_tab : {a l m n o : List ℕ} {p q r : ℕ} → PutsText 0 a l m p → (t : List ℕ) → length a + (1 + length t) ≤ length l
    → (q ≡ place_after p (9 ∷ []) m) × (n ≡ put_at p (9 ∷ []) m) → (r ≡ place_after q t n) × (o ≡ put_at q t n) → PutsText 0 (a ++ after_tab t) l o r
puts_tab {a} {l} {m} x t h e f =
    let p = x.place in
    let b = x.buffer in
    let long : length m ≡ length l = rw b (over_at_long 0 a l (omega arith)) in
    puts_then (omega arith) x (puts_two (9 ∷ []) t (length t) (omega arith) (omega arith) e f).0

-- a text put from the first byte on
pub puts_first : {t l l' : List ℕ} {r : ℕ} → PutsText 0 t l l' r → take r l' ≡ t
unfolding over_at
puts_first {t} {l} {l'} {r} p =
    let long : r ≡ length t = omega (arith, p.place) in
    rw (p.buffer, long) (take_at t (drop (length t) l) (length t) refl)

-- a text that was put into a buffer, which kept its length, ends inside it
over_long : (at : ℕ) (t l : List ℕ) → at ≤ length l → length (over_at at t l) ≡ at + (length t + (length l - at - length t))
unfolding over_at
over_long at t l h = rw (length-append, length-append, length-drop, length-drop, length-take-le at l h)

pub ends_inside : {at r : ℕ} {t l l' : List ℕ} → PutsText at t l l' r → at ≤ length l → length l' ≡ length l → r ≤ length l'
ends_inside {at} {r} {t} {l} {l'} p h kept = omega (arith, p.place, ap length p.buffer, over_long at t l h)

-- ---- a text put where `room` bytes are free
module _ {room at : ℕ} {t l : List ℕ} where
  module _ {l' : List ℕ} {r : ℕ} where
    pub within_fits : PutsText at t l l' r → at + room ≤ length l → PutsWithin room at t l l' r
    within_fits p h = record { place = rw (le-leb _ _ h) p.place; buffer = rw (le-leb _ _ h) p.buffer }

    pub within_puts : PutsWithin room at t l l' r → at + room ≤ length l → PutsText at t l l' r
    within_puts p h = record { place = rw (le-leb _ _ h) at p.place; buffer = rw (le-leb _ _ h) at p.buffer }
