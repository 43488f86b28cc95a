use Rattle.turk_base.specs.Values as model
use Rattle.turk_base.specs.Prog.{Put, ask}
use Rattle.turk_base.specs.Errors.{error_cell}
use Rattle.std.proofs.Common.{codes}
use Rattle.run_host.proofs.Exits.{takes_exit}
use Rattle.run_host.proofs.Sequence.{leads_then, leads_out, gives_on, leaves_on}
use Rattle.host_steps.proofs.Made.{put_under, put_out_under}
use Rattle.run_host.proofs.Fits.{leaves_lost}
use Rattle.host_steps.proofs.errors.error_made.Goals as goal

pub returns-in_err-text-clause-did : goal.returns-in_err-text-clause-did
returns-in_err-text-clause-did g c = takes_exit _ _ c.from_residual-in_err-text.ensures.1
    (leaves_on c.in_err-text.ensures.did (λ nu t go. error_cell (nu c.args.prototype) t go))

pub returns-in_err-cell-clause-did : goal.returns-in_err-cell-clause-did
returns-in_err-cell-clause-did g c = takes_exit _ _ c.from_residual-in_err-cell.ensures.1
    (leads_out (gives_on c.in_ok-text.ensures.did (λ nu t go. error_cell (nu c.args.prototype) t go))
    (leaves_on c.in_err-cell.ensures.did (λ nu a go. ask (Put a (codes "message") (model.Text c.in_ok-text.text)) (λ _. go a))))

pub returns-in_err-put-clause-did : goal.returns-in_err-put-clause-did
returns-in_err-put-clause-did g c = takes_exit _ _ c.from_residual-in_err-put.ensures.1
    (leads_out (gives_on c.in_ok-text.ensures.did (λ nu t go. error_cell (nu c.args.prototype) t go))
    (leads_out (gives_on c.in_ok-cell.ensures.did (λ nu a go. ask (Put a (codes "message") (model.Text c.in_ok-text.text)) (λ _. go a)))
    (leaves_on (put_out_under {at = λ nu. nu c.in_ok-cell.cell} {v = λ nu. model.Text c.in_ok-text.text} (codes "message") c.in_ok-key.ensures c.in_err-put.ensures.did) (λ nu _ go. go (nu c.in_ok-cell.cell)))))

pub returns-clause-did : goal.returns-clause-did
returns-clause-did g c =
    leads_then (gives_on c.in_ok-text.ensures.did (λ nu t go. error_cell (nu c.args.prototype) t go))
    (leads_then (gives_on c.in_ok-cell.ensures.did (λ nu a go. ask (Put a (codes "message") (model.Text c.in_ok-text.text)) (λ _. go a)))
    (gives_on (put_under {at = λ nu. nu c.in_ok-cell.cell} {v = λ nu. model.Text c.in_ok-text.text} (codes "message") c.in_ok-key.ensures c.in_ok-put.ensures.did) (λ nu _ go. go (nu c.in_ok-cell.cell))))

pub returns-in_err-key-clause-did : goal.returns-in_err-key-clause-did
returns-in_err-key-clause-did g c = takes_exit _ _ c.from_residual.ensures.1 leaves_lost
