use Rattle.std.proofs.Common.{ap}
use Rattle.turk_base.specs.Prog.{ReadName, ask}
use Rattle.js_tree.specs.Pieces.{get_bound}
use Rattle.value_cells.specs.Seen.{val_in}
use Rattle.run_host.specs.Told.{here_in}
use Rattle.run_host.proofs.Sequence.{leads_then, gives_on}
use Rattle.run_host.proofs.Fits.{takes_as, leads_eq}
use Rattle.host_steps.proofs.Made.{leaves_thrown}
use Rattle.host_steps.proofs.names.get_variable.Goals as goal

pub returns-in-Out-clause-did : goal.returns-in-Out-clause-did
returns-in-Out-clause-did g c = takes_as _ val_in c.read_name.result
    (leads_then (leads_eq (λ nu go. ap (λ b. get_bound (here_in nu c.args.here) c.args.x.now.name b go) c.in-Out.is))
    (gives_on c.frame_out-frame.ensures.did (λ nu f go. ask (ReadName f c.args.x.now.name) (λ v. go v)))) c.read_name.ensures.did

pub returns-in-BuiltIn-clause-did : goal.returns-in-BuiltIn-clause-did
returns-in-BuiltIn-clause-did g c = leads_then (leads_eq (λ nu go. ap (λ b. get_bound (here_in nu c.args.here) c.args.x.now.name b go) c.in-BuiltIn.is)) c.built_in_value.ensures.did

pub returns-in-Nothing-clause-did : goal.returns-in-Nothing-clause-did
returns-in-Nothing-clause-did g c = leaves_thrown (λ nu go. ap (λ b. get_bound (here_in nu c.args.here) c.args.x.now.name b go) c.in-Nothing.is) c.undeclared.ensures.did
