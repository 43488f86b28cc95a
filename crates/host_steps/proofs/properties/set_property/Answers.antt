use Rattle.std.proofs.Common.{ap, ◌∙◌, sym}
use Rattle.turk_base.specs.Prog.{Put, ask}
use Rattle.js_tree.specs.Pieces.{set_property}
use Rattle.value_cells.specs.Seen.{val_in}
use Rattle.run_host.proofs.Exits.{takes_exit}
use Rattle.run_host.proofs.Fits.{takes_as, leads_eq, leaves_lost}
use Rattle.host_steps.proofs.Parts.{no_write}
use Rattle.host_steps.proofs.properties.set_property.Goals as goal

pub returns-in_err-copy-in-Object-clause-did : goal.returns-in_err-copy-in-Object-clause-did
returns-in_err-copy-in-Object-clause-did g c = takes_exit _ _ c.from_residual.ensures.1 leaves_lost

pub returns-in_ok-copy-in-Object-clause-did : goal.returns-in_ok-copy-in-Object-clause-did
returns-in_ok-copy-in-Object-clause-did g c = takes_as _ (λ nu u. u) c.put.result
    (leads_eq (λ nu go. ap (λ v. set_property (val_in nu v) c.args.key.now (val_in nu c.args.value.now) go) c.in-Object.is
    ∙ ap (λ v. ask (Put (nu c.in-Object.cell) c.args.key.now (val_in nu v)) go) (sym c.in_ok-copy-in-Object.ensures))) c.put.ensures.did

pub returns-in_default-clause-did : goal.returns-in_default-clause-did
returns-in_default-clause-did g c = no_write c.args.base.now c.args.key.now c.args.value.now c.in_default.not-Object
