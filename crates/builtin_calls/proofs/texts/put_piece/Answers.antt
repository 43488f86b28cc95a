use Rattle.std.proofs.Common.{ap, sym}
use Rattle.turk_base.specs.Values as model
use Rattle.turk_base.specs.Prog.{Put, ask, made}
use Rattle.turk_base.specs.Errors.{index_text}
use Rattle.builtin_calls.proofs.Moves.{takes_out, takes_as, leads_then, leads_out, leads_same, gives_on, leaves_on}
use Rattle.builtin_calls.proofs.texts.put_piece.Goals as goal

pub returns-in_err-text-clause-did : goal.returns-in_err-text-clause-did
returns-in_err-text-clause-did g c = takes_out _ c.from_residual-in_err-text.result c.from_residual-in_err-text.ensures.1
    (leads_out (leads_same (λ nu go. ap (λ t. made t (λ t. ask (Put (nu c.args.cell) (index_text c.args.index) (model.Text t)) go)) (sym c.in_ok-copy.ensures)))
    (leaves_on c.in_err-text.ensures.did (λ nu t. ask (Put (nu c.args.cell) (index_text c.args.index) (model.Text t)))))

pub returns-clause-did : goal.returns-clause-did
returns-clause-did g c = takes_as _ (λ nu u. u) c.put_at.result
    (leads_then (leads_same (λ nu go. ap (λ t. made t (λ t. ask (Put (nu c.args.cell) (index_text c.args.index) (model.Text t)) go)) (sym c.in_ok-copy.ensures)))
    (gives_on c.in_ok-text.ensures.did (λ nu t. ask (Put (nu c.args.cell) (index_text c.args.index) (model.Text t))))) c.put_at.ensures.did
