-- What every plain path has that is read, in either mode: it is well formed.
use Rattle.codec.proofs.Prelude.{◌≡◌, Bool, true, length}
use Rattle.codec.specs.Reads.{Yields}
use Rattle.codec.proofs.Yields.{yields_as, mapped_yields}
use Rattle.path.specs.Limits.{total_of, limits, PathOk}
use Rattle.path.specs.Record.{path_from, well_formed, TypedPath}
use Rattle.path.proofs.Record.{well_made}
use Rattle.path.proofs.Limits.{limits_total, limits_count}
use Rattle.path_suffix.proofs.Yields.{suffix_yields}
use Rattle.path_codec.specs.Plain.{read_path}

pub path_yields : (canonic : Bool) → Yields (read_path canonic) (λ p. TypedPath p × (well_formed p ≡ true))
unfolding read_path
path_yields canonic =
    mapped_yields path_from _ _ (
    yields_as _ _ _ (suffix_yields canonic limits) (λ cs y.
    let ok : PathOk cs = record { total = limits_total (total_of cs) (length cs) y.limited; count = limits_count (total_of cs) (length cs) y.limited; all = y.all } in
    well_made cs ok))
