use Rattle.std.proofs.Common.{refl, subst, ◌-◌}
use Rattle.turk_base.specs.State.{charge}
use Rattle.turk_base.specs.Steps.{give, step}
use Rattle.value_cells.specs.Does.{Says, Spends}
use Rattle.run_heap.specs.Core.{Core}
use Rattle.run_heap.specs.Works.{Works}
use Rattle.run_heap.specs.Stored.{core_of}
use Rattle.run_heap.proofs.Turn.{pay_works, pay_spends, core}
use Rattle.run_heap.proofs.RunHeap.pay.Goals as goal

pub returns-then-self-units-clause-did : goal.returns-then-self-units-clause-did
returns-then-self-units-clause-did c =
    subst (λ (s : Core). Works (λ nu. step (charge c.args.units) give) (λ nu. Spends) s s) c.self.view_is (pay_spends (core_of c.self.inside) c.args.units c.if-self-units.true)

pub returns-clause-did : goal.returns-clause-did
returns-clause-did c =
    let a = c.self.inside in
    subst (λ (s : Core). Works (λ nu. step (charge c.args.units) give) (λ nu. Says tt) s (core a.cells a.slots a.place a.outer.items (a.left - c.args.units))) c.self.view_is
    (pay_works (core_of a) c.args.units (a.left - c.args.units) c.if-self-units.false refl)
