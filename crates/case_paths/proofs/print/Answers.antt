use Rattle.std.proofs.Common.{◌≡◌, arith, refl, length}
use Rattle.path.specs.Flat.{path_in}
use Rattle.path_text.specs.PathText.{path_text_of}
use Rattle.path_text.proofs.Back.{path_text_laws}
use Rattle.case_text.proofs.Puts.{puts_fits, puts_first}
use Rattle.case_paths.proofs.print.Goals as goal

pub returns : goal.returns
returns c =
    let p = path_in c.args.path.now in
    let few = path_text_laws.path_few p in
    let start = c.new-text.ensures.start in
    let room : length c.new-text.result.out.now ≡ 8192 = rw start.1 refl in
    let read = puts_first (puts_fits (path_text_of p) (omega (arith, few, room)) (rw start.0 at c.put_path.ensures.put)) in
    let told = c.first_bytes.ensures in
    grind arith
