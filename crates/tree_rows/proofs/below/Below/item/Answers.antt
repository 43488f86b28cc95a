use Rattle.std.specs.Prelude.{Ok, Err}
use Rattle.std.proofs.Common.{ap, sym}
use Rattle.turk_base.specs.Errors.{index_text}
use Rattle.turk_base.specs.Prog.{Put, ask}
use Rattle.js_tree.specs.declared.Field.{out-Field}
use Rattle.value_cells.specs.Seen.{val_in}
use Rattle.run_host.proofs.Sequence.{evaluated, leads_then, gives_on, leaves_on}
use Rattle.run_host.proofs.Exits.{takes_exit}
use Rattle.run_host.proofs.Fits.{takes_as, leads_eq, out_lost}
use Rattle.tree_rows.proofs.below.Below.item.Goals as goal

pub returns-in_err-value-clause-did : goal.returns-in_err-value-clause-did
returns-in_err-value-clause-did g c = takes_exit _ _ c.from_residual.ensures.1 (leaves_on (evaluated (Err _) c.in_err-value.ensures.ran) (λ nu v go. ask (Put (nu c.args.array) (index_text c.args.index) v) go))

pub returns-in_err-key-clause-did : goal.returns-in_err-key-clause-did
returns-in_err-key-clause-did g c = takes_exit _ _ c.from_residual-in_err-key.ensures.1 (out_lost (gives_on (evaluated (Ok _) c.in_ok-value.ensures.ran) (λ nu v go. ask (Put (nu c.args.array) (index_text c.args.index) v) go)))

pub returns-clause-did : goal.returns-clause-did
returns-clause-did g c = takes_as _ (λ nu u. u) c.put.result (leads_then (gives_on (evaluated (Ok _) c.in_ok-value.ensures.ran) (λ nu v go. ask (Put (nu c.args.array) (index_text c.args.index) v) go))
    (leads_eq (λ nu go. ap (λ k. ask (Put (nu c.args.array) k (val_in nu c.in_ok-value.value)) go) (sym c.in_ok-key.ensures)))) c.put.ensures.did
