use Rattle.std.proofs.Common.{◌≡◌, ◌≤◌, subst}
use Rattle.std.specs.Option.{option_map}
use Rattle.turk_base.specs.State.{charge}
use Rattle.turk_base.specs.Steps.{give, step, steps_of}
use Rattle.turk_base.specs.Prog.{Get, Put, Remove, Make, Pay}
use Rattle.value_cells.specs.Seen.{Naming, count, val_in, kind_in}
use Rattle.value_cells.specs.Does.{Does, told}
use Rattle.run_heap.specs.Core.{Core}
use Rattle.plain_heap.specs.Plain.{plain_seen}
use Rattle.plain_heap.proofs.Alone.{gets, more, stays_plain}
use Rattle.plain_heap.proofs.PlainHeapHeap.get.Goals as goal

pub invariant_of-self : goal.invariant_of-self
invariant_of-self c = stays_plain c.self.inside.heap c.get.new.self (λ (nu : Naming). steps_of (Get (nu c.args.cell) c.args.key.now)) (λ nu. told (option_map (val_in nu)) c.get.result) c.get.ensures.did c.get.ensures.rests c.self.invariant

pub returns-clause-did : goal.returns-clause-did
returns-clause-did c =
    subst (λ (s : Core). Does (λ (nu : Naming). Get (nu c.args.cell) c.args.key.now) (λ nu. told (option_map (val_in nu)) c.get.result) (plain_seen s) (plain_seen c.get.new.self)) c.self.view_is
    (gets c.self.inside.heap c.get.new.self c.args.cell c.args.key.now (λ nu. told (option_map (val_in nu)) c.get.result) c.get.ensures.did)

pub returns-clause-more : goal.returns-clause-more
returns-clause-more c =
    subst (λ (s : Core). count (plain_seen s) ≤ count (plain_seen c.get.new.self)) c.self.view_is
    (more c.self.inside.heap c.get.new.self (λ (nu : Naming). steps_of (Get (nu c.args.cell) c.args.key.now)) (λ nu. told (option_map (val_in nu)) c.get.result) c.get.ensures.did)
