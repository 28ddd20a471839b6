use Rattle.std.proofs.Common.{◌≡◌, ◌∙◌, sym, take, arith, length-take}
use Rattle.text.specs.Hex.{unhex}
use Rattle.text.proofs.HexAnswers.{hex_none, hex_some, some_bytes_lem, bytes_are}
use Rattle.path.specs.Limits.{max_component_length}
use Rattle.path_text.proofs.Reading.{appends_none, appends_text}
use Rattle.path_text.proofs.push_text.Goals as goal

pub returns-in_err-n : goal.returns-in_err-n
returns-in_err-n c =
    let over = hex_none c.read_hex.result c.args.hex.now max_component_length (sym c.ok.ensures.value ∙ c.in_err-n.was) c.read_hex.ensures.0 in
    rw c.from_residual.ensures (appends_none c.args.builder c.args.hex.now c.args.out.now over)

pub slice_bounds-bytes-end : goal.slice_bounds-bytes-end
slice_bounds-bytes-end c =
    let here = hex_some c.read_hex.result c.args.hex.now max_component_length c.in_ok-n.n (sym c.ok.ensures.value ∙ c.in_ok-n.was) c.read_hex.ensures.0 in
    omega (arith, (some_bytes_lem c.args.hex.now c.in_ok-n.n max_component_length here).2, c.read_hex.auto.out)

pub slice_bounds-append_component-end : goal.slice_bounds-append_component-end
slice_bounds-append_component-end c =
    let here = hex_some c.read_hex.result c.args.hex.now max_component_length c.in_ok-n.n (sym c.ok.ensures.value ∙ c.in_ok-n.was) c.read_hex.ensures.0 in
    rw length-take (omega (arith, (some_bytes_lem c.args.hex.now c.in_ok-n.n max_component_length here).2, c.read_hex.auto.out))

pub returns : goal.returns
returns c =
    let t = c.args.hex.now in
    let n = c.in_ok-n.n in
    let here = hex_some c.read_hex.result t max_component_length n (sym c.ok.ensures.value ∙ c.in_ok-n.was) c.read_hex.ensures.0 in
    let bytes : take n c.read_hex.new.out ≡ unhex t = rw c.read_hex.ensures.1 (bytes_are t n _ here) in
    rw c.ok-2.ensures.value (appends_text c.args.builder t c.args.out.now (some_bytes_lem t n max_component_length here).0 c.append_component.result (rw bytes at c.append_component.ensures))
