use Rattle.codec.proofs.Prelude.{sym, ap, ◌≡◌, ◌∙◌, List, [], ◌∷◌, ◌++◌, ◌-◌, ℕ, arith, length, take, length-take-le}
use Rattle.codec.specs.Answers.{accepted}
use Rattle.path.specs.Record.{components_of}
use Rattle.path.specs.Flat.{path_in}
use Rattle.path.proofs.Growing.{built_flat, appends_grown, appends_built}
use Rattle.path_suffix_decode.proofs.Into.{ready_room}
use Rattle.path_suffix_decode.proofs.Within.{last_there}
use Rattle.path_suffix_decode.proofs.components.decode_last.Goals as goal

pub unwrap-requires : goal.unwrap-requires
unwrap-requires c =
    let a = c.args in
    let ready = c.requires c.if-total-used.false in
    let long : length (take (a.total - a.used) a.message.now) ≡ a.total - a.used = length-take-le (a.total - a.used) a.message.now c.if-message-len.false in
    appends_grown a.builder _ c.append_component.result c.append_component.ensures (omega (arith, long, c.if-total-used-gt-MAX_COMPONENT_LENGTH.false)) (omega (arith, ready.few)) (omega (arith, long, ready.fits))

pub returns : goal.returns
returns c =
    let a = c.args in
    let part = take (a.total - a.used) a.message.now in
    let cs = components_of (path_in a.out.now) in
    let long : length part ≡ a.total - a.used = length-take-le (a.total - a.used) a.message.now c.if-message-len.false in
    let ready = c.requires c.if-total-used.false in
    let room = ready_room ready in
    let is = appends_built cs ready.made part (rw c.unwrap.ensures at c.append_component.ensures) (omega (arith, long, c.if-total-used-gt-MAX_COMPONENT_LENGTH.false)) (omega (arith, room.few)) (omega (arith, long, room.fits)) in
    ap (λ (x : List ℕ). accepted x (a.total - a.used)) (built_flat (cs ++ (part ∷ [])) is)
    ∙ sym (last_there cs a.used a.total a.message.now c.if-total-used.false c.if-total-used-gt-MAX_COMPONENT_LENGTH.false c.if-message-len.false)
