use Rattle.std.proofs.Common.{ap, sym}
use Rattle.turk_base.specs.Prog.{Put, ask}
use Rattle.turk_base.specs.Errors.{index_text}
use Rattle.value_cells.specs.Seen.{val_in}
use Rattle.builtin_calls.proofs.Moves.{takes_out, takes_as, leads_then, leads_same, gives_on, leaves_on, out_lost}
use Rattle.builtin_calls.proofs.arrays.push_one.Goals as goal

pub returns-in_err-length-clause-did : goal.returns-in_err-length-clause-did
returns-in_err-length-clause-did g c = takes_out _ c.from_residual.result c.from_residual.ensures.1
    (leaves_on c.in_err-length.ensures.did (λ nu n. ask (Put (nu c.args.this) (index_text n) (val_in nu c.args.value.now))))

pub returns-in_err-copy-clause-did : goal.returns-in_err-copy-clause-did
returns-in_err-copy-clause-did g c = takes_out _ c.from_residual-in_err-copy.result c.from_residual-in_err-copy.ensures.1
    (out_lost (gives_on c.in_ok-length.ensures.did (λ nu n. ask (Put (nu c.args.this) (index_text n) (val_in nu c.args.value.now)))))

pub returns-clause-did : goal.returns-clause-did
returns-clause-did g c = takes_as _ (λ nu u. u) c.put_at.result
    (leads_then (gives_on c.in_ok-length.ensures.did (λ nu n. ask (Put (nu c.args.this) (index_text n) (val_in nu c.args.value.now))))
    (leads_same (λ nu go. ap (λ v. ask (Put (nu c.args.this) (index_text c.in_ok-length.length) (val_in nu v)) go) (sym c.in_ok-copy.ensures)))) c.put_at.ensures.did
