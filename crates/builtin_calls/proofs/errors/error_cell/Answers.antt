use Rattle.std.proofs.Common.{Ok, Err, Some, codes}
use Rattle.turk_base.specs.Values as model
use Rattle.turk_base.specs.Prog.{Put, ask}
use Rattle.value_cells.specs.declared.CellKind.TheVariants as kind
use Rattle.builtin_calls.proofs.Moves.{takes_out, leads_then, leads_out, gives_on, leaves_on, make_takes, put_takes}
use Rattle.builtin_calls.proofs.errors.error_cell.Goals as goal

pub returns-in_err-cell-clause-did : goal.returns-in_err-cell-clause-did
returns-in_err-cell-clause-did g c = takes_out _ c.from_residual-in_err-cell.result c.from_residual-in_err-cell.ensures.1
    (leaves_on (make_takes (kind.Plain (Some c.args.prototype)) (Err c.in_err-cell.field-0.0) c.in_err-cell.ensures.did) (λ nu a go. ask (Put a (codes "message") (model.Text c.args.message)) (λ _. go a)))

pub returns-in_err-put-clause-did : goal.returns-in_err-put-clause-did
returns-in_err-put-clause-did g c = takes_out _ c.from_residual-in_err-put.result c.from_residual-in_err-put.ensures.1
    (leads_out (gives_on (make_takes (kind.Plain (Some c.args.prototype)) (Ok c.in_ok-cell.cell) c.in_ok-cell.ensures.did) (λ nu a go. ask (Put a (codes "message") (model.Text c.args.message)) (λ _. go a)))
    (leaves_on (put_takes (λ nu u. u) (codes "message") (Err c.in_err-put.field-0.0) c.in_ok-key.ensures c.in_err-put.ensures.did) (λ nu _ go. go (nu c.in_ok-cell.cell))))

pub returns-clause-did : goal.returns-clause-did
returns-clause-did g c =
    leads_then (gives_on (make_takes (kind.Plain (Some c.args.prototype)) (Ok c.in_ok-cell.cell) c.in_ok-cell.ensures.did) (λ nu a go. ask (Put a (codes "message") (model.Text c.args.message)) (λ _. go a)))
    (gives_on (put_takes (λ nu u. u) (codes "message") (Ok c.in_ok-put.field-0) c.in_ok-key.ensures c.in_ok-put.ensures.did) (λ nu _ go. go (nu c.in_ok-cell.cell)))
