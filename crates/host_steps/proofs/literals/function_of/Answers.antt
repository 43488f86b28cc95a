use Rattle.std.proofs.Common.{subst}
use Rattle.js_tree.specs.Pieces.{make_function}
use Rattle.run_host.specs.Steps.{Takes}
use Rattle.host_steps.proofs.literals.function_of.Goals as goal

pub returns-clause-did : goal.returns-clause-did
returns-clause-did g c = subst (λ n. Takes (λ nu. make_function n (nu c.args.frame)) (λ nu. nu) c.make_function.result (g.H.Host.moment c.args.host.now) (g.H.Host.moment c.make_function.new.host)) c.number.ensures c.make_function.ensures.did
