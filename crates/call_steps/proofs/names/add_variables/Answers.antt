use Rattle.call_steps.proofs.Frames.{known_more, or_false, variables_goes, variables_out, variables_over, with_name}
use Rattle.call_steps.specs.Frames.{after}
use Rattle.js_tree.specs.Calls.{has}
use Rattle.run_host.proofs.Exits.{takes_exit}
use Rattle.run_host.proofs.Sequence.{leads_same}
use Rattle.std.proofs.Common.{arith, ◌∙◌}
use Rattle.call_steps.proofs.names.add_variables.Goals as goal

pub loop-i-init : goal.loop-i-init
loop-i-init g c = record { names = (after c.args.parameters.now c.args.functions.now); same = λ y. or_false (has (after c.args.parameters.now c.args.functions.now) y); rest = leads_same; more = omega arith; sound = c.requires.sound }

pub returns-in_err-add_variable-clause-did : goal.returns-in_err-add_variable-clause-did
returns-in_err-add_variable-clause-did g c = takes_exit _ _ c.from_residual.ensures.1 (variables_out (λ nu. nu c.args.frame) c.args.variables.now c.loop-i.i c.loop-i.invariant.names c.index-variables-i.result c.is_there-known.result _ c.loop-i-test.true c.index-variables-i.is (c.loop-i.invariant.same c.index-variables-i.result ∙ c.is_there-known.ensures) c.loop-i.invariant.rest c.in_err-add_variable.ensures.did)

pub loop-i-preserved : goal.loop-i-preserved
loop-i-preserved g c = record {
  names = with_name c.loop-i.invariant.names c.index-variables-i.result c.is_there-known.result;
  same = known_more (after c.args.parameters.now c.args.functions.now) c.loop-i.invariant.names c.args.variables.now c.loop-i.i c.index-variables-i.result c.is_there-known.result c.loop-i-test.true c.index-variables-i.is (c.loop-i.invariant.same c.index-variables-i.result ∙ c.is_there-known.ensures) c.loop-i.invariant.same;
  rest = variables_goes (λ nu. nu c.args.frame) c.args.variables.now c.loop-i.i c.loop-i.invariant.names c.index-variables-i.result c.is_there-known.result c.loop-i-test.true c.index-variables-i.is (c.loop-i.invariant.same c.index-variables-i.result ∙ c.is_there-known.ensures) c.loop-i.invariant.rest c.in_ok-add_variable.ensures.did;
  more = omega (arith, c.loop-i.invariant.more, c.in_ok-add_variable.ensures.more);
  sound = c.in_ok-add_variable.ensures.sound;
}

pub returns-clause-did : goal.returns-clause-did
returns-clause-did g c = variables_over (λ nu. nu c.args.frame) c.args.variables.now c.loop-i.i c.loop-i.invariant.names c.loop-i-test.false c.loop-i.invariant.rest
