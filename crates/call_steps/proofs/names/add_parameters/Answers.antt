use Rattle.call_steps.proofs.Frames.{parameters_goes, parameters_out, parameters_over}
use Rattle.run_host.proofs.Exits.{takes_exit}
use Rattle.run_host.proofs.Sequence.{leads_same}
use Rattle.std.proofs.Common.{arith}
use Rattle.call_steps.proofs.names.add_parameters.Goals as goal

pub loop-i-init : goal.loop-i-init
loop-i-init g c = record { rest = leads_same; more = omega arith; sound = c.requires.sound }

pub returns-in_err-add_parameter-clause-did : goal.returns-in_err-add_parameter-clause-did
returns-in_err-add_parameter-clause-did g c = takes_exit _ _ c.from_residual.ensures.1 (parameters_out (λ nu. nu c.args.frame) c.args.parameters.now c.args.arguments.now c.loop-i.i c.index-parameters-i.result c.names_after-later.result.now _ c.loop-i-test.true c.index-parameters-i.is c.names_after-later.ensures c.loop-i.invariant.rest c.in_err-add_parameter.ensures.did)

pub loop-i-preserved : goal.loop-i-preserved
loop-i-preserved g c = record {
  rest = parameters_goes (λ nu. nu c.args.frame) c.args.parameters.now c.args.arguments.now c.loop-i.i c.index-parameters-i.result c.names_after-later.result.now c.loop-i-test.true c.index-parameters-i.is c.names_after-later.ensures c.loop-i.invariant.rest c.in_ok-add_parameter.ensures.did;
  more = omega (arith, c.loop-i.invariant.more, c.in_ok-add_parameter.ensures.more);
  sound = c.in_ok-add_parameter.ensures.sound;
}

pub returns-clause-did : goal.returns-clause-did
returns-clause-did g c = parameters_over (λ nu. nu c.args.frame) c.args.parameters.now c.args.arguments.now c.loop-i.i c.loop-i-test.false c.loop-i.invariant.rest
