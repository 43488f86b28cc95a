use Rattle.js_tree.specs.Calls.{called}
use Rattle.run_host.specs.Told.{flow_in}
use Rattle.std.proofs.Common.{ap}
use Rattle.call_steps.proofs.ends.returned.Goals as goal

pub returns-in-Return-clause-value : goal.returns-in-Return-clause-value
returns-in-Return-clause-value c = λ nu. ap (λ f. called (flow_in nu f)) c.in-Return.is

pub returns-in-Normal-clause-value : goal.returns-in-Normal-clause-value
returns-in-Normal-clause-value c = λ nu. ap (λ f. called (flow_in nu f)) c.in-Normal.is

pub returns-in-Break-clause-value : goal.returns-in-Break-clause-value
returns-in-Break-clause-value c = λ nu. ap (λ f. called (flow_in nu f)) c.in-Break.is

pub returns-in-Continue-clause-value : goal.returns-in-Continue-clause-value
returns-in-Continue-clause-value c = λ nu. ap (λ f. called (flow_in nu f)) c.in-Continue.is
