use Rattle.codec.proofs.Prelude.{◌≡◌, arith}
use Rattle.std.proofs.Common.{Err, rules}
use Rattle.codec.specs.Answers.{decode_number}
use Rattle.codec.proofs.Answers.{gives_refused}
use Rattle.path.proofs.Growing.{in_empty}
use Rattle.path_codec.proofs.Exits.{path_refused, rest_inside, path_stopped, path_read, path_inside}
use Rattle.path_codec.proofs.decode.Goals as goal

pub returns-in-Err : goal.returns-in-Err
returns-in-Err c =
    let a = c.args in
    rw (c.clear.ensures, in_empty) (gives_refused c.in-Err.error (path_refused a.canonic a.message.now a.start (decode_number c.in-Err.error) c.in-Err.ensures))

pub overflow_add-rest : goal.overflow_add-rest
overflow_add-rest c = omega (arith, rest_inside c.args.canonic c.args.message.now c.args.start _ _ c.in-Ok.ensures)

pub slice_bounds-rest-count : goal.slice_bounds-rest-count
slice_bounds-rest-count c = rest_inside c.args.canonic c.args.message.now c.args.start _ _ c.in-Ok.ensures

pub slice_bounds-rest-start : goal.slice_bounds-rest-start
slice_bounds-rest-start c = omega (arith, rest_inside c.args.canonic c.args.message.now c.args.start _ _ c.in-Ok.ensures)

pub returns-in_err-n : goal.returns-in_err-n
returns-in_err-n c =
    let e : c.from_residual.result ≡ Err c.in_err-n.field-0.0 = search rules in
    rw e (path_stopped c.args.canonic c.args.message.now c.args.start _ _ c.in-Ok.ensures c.in_err-n.field-0.0 c.in_err-n.ensures)

pub overflow_add-result : goal.overflow_add-result
overflow_add-result c = omega (arith, path_inside c.args.canonic c.args.message.now c.args.start _ _ c.in-Ok.ensures c.in_ok-n.n c.in_ok-n.ensures)

pub returns : goal.returns
returns c = path_read c.args.canonic c.args.message.now c.args.start _ _ c.in-Ok.ensures c.in_ok-n.n c.in_ok-n.ensures
