use Rattle.std.specs.Prelude.{Ok, Err}
use Rattle.std.proofs.Common.{ap, sym}
use Rattle.turk_base.specs.Errors.{index_text}
use Rattle.turk_base.specs.Prog.{Put, ask}
use Rattle.js_tree.specs.declared.Field.{out-Field}
use Rattle.value_cells.specs.Seen.{val_in}
use Rattle.run_host.proofs.Sequence.{evaluated, leads_then, gives_on, leaves_on}
use Rattle.run_host.proofs.Exits.{takes_exit}
use Rattle.run_host.proofs.Fits.{takes_as, leads_eq, out_lost}
use Rattle.tree_rows.proofs.below.Below.field.Goals as goal

pub returns-in_err-value-clause-did : goal.returns-in_err-value-clause-did
returns-in_err-value-clause-did g c = takes_exit _ _ c.from_residual.ensures.1 (leaves_on (evaluated (Err _) c.in_err-value.ensures.ran) (λ nu v go. ask (Put (nu c.args.object) (out-Field c.args.field.now).key v) go))

pub returns-clause-did : goal.returns-clause-did
returns-clause-did g c = takes_as _ (λ nu u. u) c.put.result (gives_on (evaluated (Ok _) c.in_ok-value.ensures.ran) (λ nu v go. ask (Put (nu c.args.object) (out-Field c.args.field.now).key v) go)) c.put.ensures.did
