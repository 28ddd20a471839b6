use Rattle.codec.proofs.Prelude.{refl, sym, ◌∙◌, arith, ◌≤◌, take_all, length, List, ℕ}
use Rattle.path.specs.Flat.{path_size}
use Rattle.path.proofs.Loads.{path_stores}
use Rattle.jakepuro.proofs.paths.store.Goals as goal

pub returns : goal.returns
returns c =
    let p : List ℕ = c.args.read.now in
    let long : path_size ≤ length p = omega (arith, c.told-read) in
    let stored = path_stores p long c.fits-read ∙ take_all path_size p (omega (arith, c.told-read)) in
    rw c.in_ok-consumed.was (record { answer = refl; value = sym stored })
