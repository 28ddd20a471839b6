-- A record's fields one after another, none of which looks at another's value: the laws of their chain, told by the laws of each.
use Rattle.codec.proofs.Prelude.{◌≡◌, refl, ◌∙◌, List, ◌++◌, Bool, true, false, ℕ}
use Rattle.codec.specs.Reader.{Reader, and_then, mapped}
use Rattle.codec.specs.Reads.{Reads, Relaxes, Bounded}
use Rattle.codec.proofs.Readers.{reads_as, then_reads, mapped_reads}
use Rattle.codec.proofs.Relaxes.{then_relaxes, mapped_relaxes}
use Rattle.codec.proofs.Bounded.{then_bounded, mapped_bounded}

-- what a field's reader has in both modes, the first where T holds; `bytes` are what writing gives
pub record Field {A : Type 0} (T : Type 0) (read : Bool → Reader A) (W : A → List ℕ → Type 0) (bytes : A → List ℕ) : Type 0 where
  pub reads : T → Reads (read true) W
  pub relaxes : Relaxes (read true) (read false)
  pub bounded : (canonic : Bool) → Bounded (read canonic)
  pub written : (a : A) (e : List ℕ) → W a e → e ≡ bytes a

pub field_as : {T A : Type 0} {read : Bool → Reader A} {W U : A → List ℕ → Type 0} {bytes : A → List ℕ}
    → Field T read W bytes → ((a : A) (e : List ℕ) → W a e → U a e) → ((a : A) (e : List ℕ) → U a e → W a e) → Field T read U bytes
field_as f there back = record { reads = λ t. reads_as _ _ _ (f.reads t) there back; relaxes = f.relaxes; bounded = f.bounded; written = λ a e u. f.written a e (back a e u) }

-- the last fields of a record c, of which K says what was read before them, and P each field's own
pub record Rest {C : Type 0} (K P : C → Type 0) (bytes : C → List ℕ) (c : C) (e : List ℕ) : Type 0 where
  pub known : K c
  pub holds : P c
  pub whole : e ≡ bytes c

-- the field f, which is `one` of the record
module _ {T A C : Type 0} {read : Bool → Reader A} {W : A → List ℕ → Type 0} {bytes : A → List ℕ} (one : C → A) (f : Field T read W bytes) where
  -- before other fields
  pub field_then : {K P : C → Type 0} {after : C → List ℕ} {q : Bool → A → Reader C}
      → ((x : A) → Field T (λ canonic. q canonic x) (Rest (λ c. K c × (one c ≡ x)) P after) after)
      → Field T (λ canonic. and_then (read canonic) (q canonic)) (Rest K (λ c. W (one c) (bytes (one c)) × P c) (λ c. bytes (one c) ++ after c)) (λ c. bytes (one c) ++ after c)
  field_then {K} {P} {after} {q} g = record {
    reads = λ t. reads_as _ _ _ (then_reads (read true) W (q true) (λ x. Rest (λ c. K c × (one c ≡ x)) P after) (f.reads t) (λ x e w. (g x).reads t))
        (λ c e j.
        let s = j.second in
        let front = f.written _ _ j.first in
        record { known = s.known.0; holds = (rw (s.known.1, ← front) j.first, s.holds); whole = j.whole ∙ rw (s.known.1, front, s.whole) })
        (λ c e w. record { value = one c; front = bytes (one c); rear = after c; whole = w.whole; first = w.holds.0; second = record { known = (w.known, refl); holds = w.holds.1; whole = refl } });
    relaxes = then_relaxes (read true) (read false) (q true) (q false) f.relaxes (λ x. (g x).relaxes);
    bounded = λ canonic. then_bounded (read canonic) (q canonic) (f.bounded canonic) (λ x. (g x).bounded canonic);
    written = λ c e w. w.whole;
  }

  -- the last: the record is made of it
  pub field_last : {K : C → Type 0} (make : A → C) → ((x : A) → K (make x) × (one (make x) ≡ x)) → ((c : C) → K c → make (one c) ≡ c)
      → Field T (λ canonic. mapped make (read canonic)) (Rest K (λ c. W (one c) (bytes (one c))) (λ c. bytes (one c))) (λ c. bytes (one c))
  field_last make is back = record {
    reads = λ t. reads_as _ _ _ (mapped_reads make (read true) W (f.reads t))
        (λ c e m.
        let own = f.written _ _ m.stands in
        rw (← m.named) (record { known = (is m.value).0; holds = rw ((is m.value).1, ← own) m.stands; whole = rw (is m.value).1 own }))
        (λ c e w. record { value = one c; named = back c w.known; stands = rw w.whole w.holds });
    relaxes = mapped_relaxes make (read true) (read false) f.relaxes;
    bounded = λ canonic. mapped_bounded make (read canonic) (f.bounded canonic);
    written = λ c e w. w.whole;
  }
