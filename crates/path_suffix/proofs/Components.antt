-- The laws of reading components.
use Rattle.codec.proofs.Prelude.{◌≡◌, refl, ap, List, [], ◌∷◌, ◌++◌, Bool, true, false, ℕ, zero, suc, ◌+◌, ◌-◌, arith, leb, eqb, leb-true, eqb-true, le-leb, eq-eqb, length}
use Rattle.codec.specs.Reader.{give, some_bytes, guard}
use Rattle.codec.specs.Reads.{Reads, Relaxes, Bounded}
use Rattle.codec.proofs.Relations.{Joined, Mapped, Given}
use Rattle.codec.proofs.Readers.{reads_as, then_reads, mapped_reads, guard_reads, give_reads, some_bytes_reads}
use Rattle.codec.proofs.Relaxes.{relaxes_self, then_relaxes, mapped_relaxes}
use Rattle.codec.proofs.Bounded.{give_bounded, some_bytes_bounded, then_bounded, guard_bounded, mapped_bounded}
use Rattle.compact_u64.specs.Number.{standalone_bytes, read_standalone}
use Rattle.compact_u64.proofs.Relations.{StandaloneAs}
use Rattle.compact_u64.proofs.Standalone.{standalone_reads, standalone_relaxes, standalone_bounded}
use Rattle.path.specs.Limits.{max_component_length}
use Rattle.path_suffix.specs.Suffix.{sized_bytes, component_bytes, read_sized, read_last, read_components}
use Rattle.path_suffix.proofs.Relations.{SizedAs, LastAs, ComponentsAs}

-- ---- a component after its length, and the last
pub sized_reads : Reads (read_sized true) SizedAs
unfolding read_sized
sized_reads = reads_as _ _ _
    (then_reads (read_standalone true) StandaloneAs _ _ standalone_reads (λ len e x. guard_reads (leb len max_component_length) _ _ (λ ok. some_bytes_reads len)))
    (λ c e j.
    let s = j.second.1 in
    record { ok = record { short = omega (arith, s.0, leb-true j.value max_component_length j.second.0); bytes = s.1 }; bytes = cc })
    (λ c e s. record {
      value = length c;
      front = standalone_bytes (length c);
      rear = c;
      whole = s.bytes;
      first = record { small = omega (arith, s.ok.short); bytes = refl };
      second = (le-leb (length c) max_component_length s.ok.short, (refl, s.ok.bytes, refl));
    })

pub sized_relaxes : Relaxes (read_sized true) (read_sized false)
unfolding read_sized
sized_relaxes = then_relaxes (read_standalone true) (read_standalone false) _ _ standalone_relaxes (λ len. relaxes_self (guard (leb len max_component_length) (some_bytes len)))

pub sized_bounded : (canonic : Bool) → Bounded (read_sized canonic)
unfolding read_sized
sized_bounded canonic = then_bounded (read_standalone canonic) _ (standalone_bounded canonic) (λ len. guard_bounded (leb len max_component_length) _ (some_bytes_bounded len))

last_reads : (used total : ℕ) → Reads (read_last used total) (LastAs used total)
unfolding read_last
last_reads used total = reads_as _ _ _
    (guard_reads (leb used total) _ _ (λ ok. guard_reads (leb (total - used) max_component_length) _ _ (λ ok. some_bytes_reads (total - used))))
    (λ c e j.
    let s = j.1.1 in
    record { ok = record { short = omega (arith, s.0, leb-true (total - used) max_component_length j.1.0); bytes = s.1 }; sum = omega (arith, s.0, leb-true used total j.0); bytes = s.2 })
    (λ c e s.
    let short = s.ok.short in
    let sum = s.sum in
    (le-leb used total (omega arith), (le-leb (total - used) max_component_length (omega arith), (omega arith, s.ok.bytes, s.bytes))))

pub last_bounded : (used total : ℕ) → Bounded (read_last used total)
unfolding read_last
last_bounded used total = guard_bounded (leb used total) _ (guard_bounded (leb (total - used) max_component_length) _ (some_bytes_bounded (total - used)))

-- ---- so many components
pub bytes_cons : (c : List ℕ) (cs : List (List ℕ)) (n : ℕ) → length cs ≡ suc n → component_bytes (c ∷ cs) ≡ sized_bytes c ++ component_bytes cs
unfolding component_bytes
bytes_cons c [] n h = absurd (omega arith)
bytes_cons c (d ∷ cs) n h = refl

none_back : (used total : ℕ) (cs : List (List ℕ)) (e : List ℕ) → ComponentsAs 0 used total cs e → (eqb used total ≡ true) × Given [] cs e
unfolding component_bytes
none_back used total [] e j = (eq-eqb used total (omega (arith, j.sum)), (refl, j.bytes))
none_back used total (c ∷ cs) e j = absurd (omega (arith, j.count))

one_back : (used total : ℕ) (cs : List (List ℕ)) (e : List ℕ) → ComponentsAs 1 used total cs e → Mapped (λ c. c ∷ []) (LastAs used total) cs e
unfolding component_bytes
one_back used total [] e j = absurd (omega (arith, j.count))
one_back used total (c ∷ []) e j = record { value = c; named = refl; stands = record { ok = j.all.0; sum = omega (arith, j.sum); bytes = j.bytes } }
one_back used total (c ∷ d ∷ cs) e j = absurd (omega (arith, j.count))

module _ (n used total : ℕ) where
  More : List (List ℕ) → List ℕ → Type 0
  More = Joined SizedAs (λ c. Mapped (λ cs. c ∷ cs) (ComponentsAs (suc n) (used + length c) total))

  more_there : (cs : List (List ℕ)) (e : List ℕ) → More cs e → ComponentsAs (suc (suc n)) used total cs e
  unfolding More
  more_there cs e j =
      let m = j.second in
      let x = m.stands in
      rw (← m.named) (record {
        count = ap suc x.count;
        all = (j.first.ok, x.all);
        sum = omega (arith, x.sum);
        bytes = cc (bytes_cons j.value m.value n x.count);
      })

  more_back : (cs : List (List ℕ)) (e : List ℕ) → ComponentsAs (suc (suc n)) used total cs e → More cs e
  unfolding More component_bytes
  more_back [] e j = absurd (omega (arith, j.count))
  more_back (c ∷ []) e j = absurd (omega (arith, j.count))
  more_back (c ∷ d ∷ cs) e j = record {
    value = c;
    front = sized_bytes c;
    rear = component_bytes (d ∷ cs);
    whole = j.bytes;
    first = record { ok = j.all.0; bytes = refl };
    second = record {
      value = d ∷ cs;
      named = refl;
      stands = record { count = omega (arith, j.count); all = j.all.1; sum = omega (arith, j.sum); bytes = refl };
    };
  }

pub components_reads : (n used total : ℕ) → Reads (read_components true n used total) (ComponentsAs n used total)
unfolding More read_components component_bytes
components_reads zero used total = reads_as _ _ _ (guard_reads (eqb used total) (give []) (Given []) (λ ok. give_reads []))
    (λ cs e j. rw (← j.1.0, j.1.1) (record { count = refl; all = tt; sum = omega (arith, eqb-true used total j.0); bytes = refl }))
    (none_back used total)
components_reads (suc zero) used total = reads_as _ _ _ (mapped_reads (λ c. c ∷ []) _ _ (last_reads used total))
    (λ cs e j. rw (← j.named) (record { count = refl; all = (j.stands.ok, tt); sum = omega (arith, j.stands.sum); bytes = j.stands.bytes }))
    (one_back used total)
components_reads (suc (suc n)) used total = reads_as _ _ _
    (then_reads (read_sized true) SizedAs _ _ sized_reads (λ c e x. mapped_reads (λ cs. c ∷ cs) _ _ (components_reads (suc n) (used + length c) total)))
    (more_there n used total)
    (more_back n used total)

pub components_relaxes : (n used total : ℕ) → Relaxes (read_components true n used total) (read_components false n used total)
unfolding read_components
components_relaxes zero used total = relaxes_self (guard (eqb used total) (give []))
components_relaxes (suc zero) used total = mapped_relaxes (λ c. c ∷ []) _ _ (relaxes_self (read_last used total))
components_relaxes (suc (suc n)) used total =
    then_relaxes (read_sized true) (read_sized false) _ _ sized_relaxes (λ c.
    mapped_relaxes (λ cs. c ∷ cs) _ _ (components_relaxes (suc n) (used + length c) total))

pub components_bounded : (canonic : Bool) (n used total : ℕ) → Bounded (read_components canonic n used total)
unfolding read_components
components_bounded canonic zero used total = guard_bounded (eqb used total) _ (give_bounded [])
components_bounded canonic (suc zero) used total = mapped_bounded (λ c. c ∷ []) _ (last_bounded used total)
components_bounded canonic (suc (suc n)) used total =
    then_bounded (read_sized canonic) _ (sized_bounded canonic) (λ c.
    mapped_bounded (λ cs. c ∷ cs) _ (components_bounded canonic (suc n) (used + length c) total))
