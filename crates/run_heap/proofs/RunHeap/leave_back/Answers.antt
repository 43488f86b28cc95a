use Rattle.std.proofs.Common.{rules, ◌≡◌, refl, sym, subst, ◌++◌, ◌∷◌, []}
use Rattle.run_heap.specs.declared.Place.{Place}
use Rattle.run_heap.specs.Core.{Core}
use Rattle.run_heap.specs.Stored.{core_of}
use Rattle.run_heap.specs.Whole.{IsCore}
use Rattle.run_heap.specs.Scopes.{LeavesBack}
use Rattle.run_heap.proofs.Scoping.{after, core_back}
use Rattle.run_heap.proofs.RunHeap.leave_back.Goals as goal

pub invariant_of-self : goal.invariant_of-self
invariant_of-self c =
    let a = c.self.inside in
    let is : c.replace-left.new.dest ≡ c.in-Some.around = search rules in
    subst (λ (p : Place). IsCore (record { cells = c.take_back.new.self; slots = c.take_back-2.new.self; place = p; outer = c.pop.new.self.items; left = a.left })) (sym is)
    (core_back (core_of a) c.self.invariant c.take_back.new.self c.take_back-2.new.self c.in-Some.around c.pop.new.self.items a.left c.in-Some.ensures.items c.take_back.ensures c.take_back-2.ensures.back)

pub returns-clause-back : goal.returns-clause-back
returns-clause-back c =
    let a = c.self.inside in
    let is : c.replace-left.new.dest ≡ c.in-Some.around = search rules in
    let new : Place → Core = λ p. record { cells = c.take_back.new.self; slots = c.take_back-2.new.self; place = p; outer = c.pop.new.self.items; left = a.left } in
    subst (λ (p : Place). LeavesBack c.args.self.now (new p)) (sym is)
    (subst (λ (s : Core). LeavesBack s (new c.in-Some.around)) c.self.view_is
    (record { cells = c.take_back.ensures; slots = c.take_back-2.ensures.back; keys = c.take_back-2.ensures.keys; outer = c.in-Some.ensures.items; left = refl }))
