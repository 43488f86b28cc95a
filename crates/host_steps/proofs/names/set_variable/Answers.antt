use Rattle.std.proofs.Common.{ap, sym}
use Rattle.turk_base.specs.Prog.{WriteName, ask}
use Rattle.value_cells.specs.Seen.{val_in}
use Rattle.run_host.specs.Told.{here_in}
use Rattle.run_host.proofs.Sequence.{leads_then, gives_on}
use Rattle.run_host.proofs.Exits.{takes_exit}
use Rattle.run_host.proofs.Fits.{takes_as, leads_eq, leaves_lost}
use Rattle.host_steps.proofs.Made.{leaves_thrown}
use Rattle.host_steps.proofs.Parts.{own_stays, other_set, built_in_set, undeclared_set}
use Rattle.host_steps.proofs.names.set_variable.Goals as goal

pub returns-then-x-clause-did : goal.returns-then-x-clause-did
returns-then-x-clause-did g c = own_stays c.args.x.now _ c.in-Out.is c.if-x.true (λ nu. here_in nu c.args.here) (λ nu. val_in nu c.args.value.now)

pub returns-in_err-copy-in-Out-clause-did : goal.returns-in_err-copy-in-Out-clause-did
returns-in_err-copy-in-Out-clause-did g c = takes_exit _ _ c.from_residual.ensures.1 leaves_lost

pub returns-in_ok-copy-in-Out-clause-did : goal.returns-in_ok-copy-in-Out-clause-did
returns-in_ok-copy-in-Out-clause-did g c = takes_as _ (λ nu u. u) c.write_name.result
    (leads_then (leads_eq (λ nu go. other_set c.args.x.now _ c.in-Out.is c.if-x.false (here_in nu c.args.here) (val_in nu c.args.value.now) go))
    (leads_then (gives_on c.frame_out-frame.ensures.did (λ nu f go. ask (WriteName f c.args.x.now.name (val_in nu c.args.value.now)) (λ _. go tt)))
    (leads_eq (λ nu go. ap (λ v. ask (WriteName (nu c.frame_out-frame.result) c.args.x.now.name (val_in nu v)) (λ _. go tt)) (sym c.in_ok-copy-in-Out.ensures))))) c.write_name.ensures.did

pub returns-in-BuiltIn-clause-did : goal.returns-in-BuiltIn-clause-did
returns-in-BuiltIn-clause-did g c = leaves_thrown (λ nu go. built_in_set c.args.x.now c.in-BuiltIn.is (here_in nu c.args.here) (val_in nu c.args.value.now) go) c.read_only.ensures.did

pub returns-in-Nothing-clause-did : goal.returns-in-Nothing-clause-did
returns-in-Nothing-clause-did g c = leaves_thrown (λ nu go. undeclared_set c.args.x.now c.in-Nothing.is (here_in nu c.args.here) (val_in nu c.args.value.now) go) c.undeclared.ensures.did
