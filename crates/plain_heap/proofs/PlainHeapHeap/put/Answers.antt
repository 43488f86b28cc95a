use Rattle.std.proofs.Common.{◌≡◌, ◌≤◌, subst}
use Rattle.std.specs.Option.{option_map}
use Rattle.turk_base.specs.State.{charge}
use Rattle.turk_base.specs.Steps.{give, step, steps_of}
use Rattle.turk_base.specs.Prog.{Get, Put, Remove, Make, Pay}
use Rattle.value_cells.specs.Seen.{Naming, count, val_in, kind_in}
use Rattle.value_cells.specs.Does.{Does, told}
use Rattle.run_heap.specs.Core.{Core}
use Rattle.plain_heap.specs.Plain.{plain_seen}
use Rattle.plain_heap.proofs.Alone.{puts, more, stays_plain}
use Rattle.plain_heap.proofs.PlainHeapHeap.put.Goals as goal

pub invariant_of-self : goal.invariant_of-self
invariant_of-self c = stays_plain c.self.inside.heap c.put.new.self (λ (nu : Naming). steps_of (Put (nu c.args.cell) c.args.key.now (val_in nu c.args.value))) (λ nu. told (λ u. u) c.put.result) c.put.ensures.did c.put.ensures.rests c.self.invariant

pub returns-clause-did : goal.returns-clause-did
returns-clause-did c =
    subst (λ (s : Core). Does (λ (nu : Naming). Put (nu c.args.cell) c.args.key.now (val_in nu c.args.value)) (λ nu. told (λ u. u) c.put.result) (plain_seen s) (plain_seen c.put.new.self)) c.self.view_is
    (puts c.self.inside.heap c.put.new.self c.args.cell c.args.key.now c.args.value (λ nu. told (λ u. u) c.put.result) c.put.ensures.did)

pub returns-clause-more : goal.returns-clause-more
returns-clause-more c =
    subst (λ (s : Core). count (plain_seen s) ≤ count (plain_seen c.put.new.self)) c.self.view_is
    (more c.self.inside.heap c.put.new.self (λ (nu : Naming). steps_of (Put (nu c.args.cell) c.args.key.now (val_in nu c.args.value))) (λ nu. told (λ u. u) c.put.result) c.put.ensures.did)
