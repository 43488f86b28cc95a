use Rattle.std.proofs.Common.{◌≡◌, ◌≤◌, subst}
use Rattle.std.specs.Option.{option_map}
use Rattle.turk_base.specs.State.{charge}
use Rattle.turk_base.specs.Steps.{give, step, steps_of}
use Rattle.turk_base.specs.Prog.{Get, Put, Remove, Make, Pay}
use Rattle.value_cells.specs.Seen.{Naming, count, val_in, kind_in}
use Rattle.value_cells.specs.Does.{Does, told}
use Rattle.run_heap.specs.Core.{Core}
use Rattle.plain_heap.specs.Plain.{plain_seen}
use Rattle.plain_heap.proofs.Alone.{pays, more, stays_plain}
use Rattle.plain_heap.proofs.PlainHeapHeap.pay.Goals as goal

pub invariant_of-self : goal.invariant_of-self
invariant_of-self c = stays_plain c.self.inside.heap c.pay.new.self (λ (nu : Naming). step (charge c.args.units) give) (λ nu. told (λ u. u) c.pay.result) c.pay.ensures.did c.pay.ensures.rests c.self.invariant

pub returns-clause-did : goal.returns-clause-did
returns-clause-did c =
    subst (λ (s : Core). Does (λ (nu : Naming). Pay c.args.units) (λ nu. told (λ u. u) c.pay.result) (plain_seen s) (plain_seen c.pay.new.self)) c.self.view_is
    (pays c.self.inside.heap c.pay.new.self c.args.units (λ nu. told (λ u. u) c.pay.result) c.pay.ensures.did)

pub returns-clause-more : goal.returns-clause-more
returns-clause-more c =
    subst (λ (s : Core). count (plain_seen s) ≤ count (plain_seen c.pay.new.self)) c.self.view_is
    (more c.self.inside.heap c.pay.new.self (λ (nu : Naming). step (charge c.args.units) give) (λ nu. told (λ u. u) c.pay.result) c.pay.ensures.did)
