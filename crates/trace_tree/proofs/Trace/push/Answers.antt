use Rattle.std.proofs.Common.{◌≡◌, rules, arith, None, ◌++◌, ◌∷◌, []}
use Rattle.turk_base.specs.Trace.{at}
use Rattle.trace_tree.proofs.Pushed.{trace_push, stands_push}
use Rattle.trace_tree.proofs.Trace.push.Goals as goal

pub invariant_of-self-2 : goal.invariant_of-self-2
invariant_of-self-2 c =
    let none : at c.self.inside.entries.items c.args.entry.path ≡ None = search rules in
    let is : c.push_reserved.new.self.items ≡ c.self.inside.entries.items ++ c.args.entry ∷ [] = search rules in
    rw is (trace_push c.self.inside.entries.items c.args.entry c.self.invariant none (omega (arith, c.self.inside.entries.ok.0)))

pub returns-clause-spots : goal.returns-clause-spots
returns-clause-spots c s p stands =
    let is : c.push_reserved.new.self.items ≡ c.args.self.now.entries ++ c.args.entry ∷ [] = search rules in
    rw is (stands_push c.args.self.now.entries c.args.entry s p stands)
