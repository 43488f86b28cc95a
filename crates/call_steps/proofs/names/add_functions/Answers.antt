use Rattle.call_steps.proofs.Frames.{functions_goes, functions_more, functions_out, functions_over}
use Rattle.call_steps.specs.Frames.{after}
use Rattle.js_tree.specs.Calls.{has}
use Rattle.run_host.proofs.Exits.{takes_exit}
use Rattle.run_host.proofs.Sequence.{leads_same}
use Rattle.std.proofs.Common.{ap, arith, sym, take, ◌∙◌}
use Rattle.call_steps.proofs.names.add_functions.Goals as goal

pub loop-i-init : goal.loop-i-init
loop-i-init g c = record { rest = leads_same; more = omega arith; sound = c.requires.sound }

pub returns-in_err-add_function-clause-did : goal.returns-in_err-add_function-clause-did
returns-in_err-add_function-clause-did g c = takes_exit _ _ c.from_residual.ensures.1 (functions_out (λ nu. nu c.args.frame) c.args.parameters.now c.args.functions.now c.loop-i.i c.index-functions-i.result c.is_known-known.result _ c.loop-i-test.true c.index-functions-i.is (ap (has (after c.args.parameters.now (take c.loop-i.i c.args.functions.now))) (sym c.name.ensures) ∙ c.is_known-known.ensures) c.loop-i.invariant.rest c.in_err-add_function.ensures.did)

pub loop-i-preserved : goal.loop-i-preserved
loop-i-preserved g c = record {
  rest = functions_more (λ nu. nu c.args.frame) c.args.parameters.now c.args.functions.now c.loop-i.i c.index-functions-i.result c.loop-i-test.true c.index-functions-i.is (functions_goes (λ nu. nu c.args.frame) c.args.parameters.now c.args.functions.now c.loop-i.i c.index-functions-i.result c.is_known-known.result c.loop-i-test.true c.index-functions-i.is (ap (has (after c.args.parameters.now (take c.loop-i.i c.args.functions.now))) (sym c.name.ensures) ∙ c.is_known-known.ensures) c.loop-i.invariant.rest c.in_ok-add_function.ensures.did);
  more = omega (arith, c.loop-i.invariant.more, c.in_ok-add_function.ensures.more);
  sound = c.in_ok-add_function.ensures.sound;
}

pub returns-clause-did : goal.returns-clause-did
returns-clause-did g c = functions_over (λ nu. nu c.args.frame) c.args.parameters.now c.args.functions.now c.loop-i.i c.loop-i-test.false c.loop-i.invariant.rest
