-- What every suffix has that is read, in either mode: it is within the limits.
use Rattle.codec.proofs.Prelude.{◌≡◌, refl, ap, [], ◌∷◌, Bool, ℕ, zero, suc, ◌+◌, ◌-◌, arith, leb, eqb, leb-true, eqb-true, length}
use Rattle.codec.specs.Reader.{give}
use Rattle.codec.specs.Reads.{Yields}
use Rattle.codec.proofs.Yields.{yields_as, give_yields, some_bytes_yields, then_yields, guard_yields, mapped_yields}
use Rattle.compact_u64.specs.Number.{read_standalone}
use Rattle.path.specs.Limits.{max_component_length, total_of, Component}
use Rattle.path_suffix.specs.Suffix.{read_sizes, read_sized, read_last, read_components, read_suffix}
use Rattle.path_suffix.proofs.Relations.{ComponentsOk, SuffixOk}

pub sized_yields : (canonic : Bool) → Yields (read_sized canonic) Component
unfolding read_sized
sized_yields canonic =
    then_yields (read_standalone canonic) _ (λ len. Unit {0}) Component (record { holds = λ s a n h e. tt }) (λ len x.
    guard_yields (leb len max_component_length) _ Component (λ ok.
    yields_as _ _ Component (some_bytes_yields len) (λ c y. record { short = omega (arith, y.0, leb-true len max_component_length ok); bytes = y.1 })))

last_yields : (used total : ℕ) → Yields (read_last used total) (λ c. Component c × (used + length c ≡ total))
unfolding read_last
last_yields used total =
    guard_yields (leb used total) _ _ (λ below.
    guard_yields (leb (total - used) max_component_length) _ _ (λ ok.
    yields_as _ _ _ (some_bytes_yields (total - used)) (λ c y.
    (record { short = omega (arith, y.0, leb-true (total - used) max_component_length ok); bytes = y.1 }, omega (arith, y.0, leb-true used total below)))))

pub components_yields : (canonic : Bool) (n used total : ℕ) → Yields (read_components canonic n used total) (ComponentsOk n used total)
unfolding read_components
components_yields canonic zero used total =
    guard_yields (eqb used total) (give []) _ (λ same.
    yields_as _ _ _ (give_yields []) (λ cs e. rw (← e) (record { count = refl; all = tt; sum = omega (arith, eqb-true used total same) })))
components_yields canonic (suc zero) used total =
    mapped_yields (λ c. c ∷ []) _ _ (
    yields_as _ _ _ (last_yields used total) (λ c y. record { count = refl; all = (y.0, tt); sum = omega (arith, y.1) }))
components_yields canonic (suc (suc n)) used total =
    then_yields (read_sized canonic) _ Component _ (sized_yields canonic) (λ c x.
    mapped_yields (λ cs. c ∷ cs) _ _ (
    yields_as _ _ _ (components_yields canonic (suc n) (used + length c) total) (λ cs y.
    record { count = ap suc y.count; all = (x, y.all); sum = omega (arith, y.sum) })))

pub suffix_yields : (canonic : Bool) (within : ℕ → ℕ → Bool) → Yields (read_suffix canonic within) (SuffixOk within)
unfolding read_suffix
suffix_yields canonic within =
    then_yields (read_sizes canonic) _ (λ h. Unit {0}) (SuffixOk within) (record { holds = λ s a n h e. tt }) (λ h x.
    guard_yields (within h.total h.count) _ (SuffixOk within) (λ ok.
    yields_as _ _ (SuffixOk within) (components_yields canonic h.count 0 h.total) (λ cs y.
    let total : h.total ≡ total_of cs = omega (arith, y.sum) in
    let count : h.count ≡ length cs = omega (arith, y.count) in
    record { limited = rw (← total, ← count) ok; all = y.all })))
