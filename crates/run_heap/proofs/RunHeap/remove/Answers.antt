use Rattle.std.proofs.Common.{◌≡◌, true, false, refl, ap, sym, ◌∙◌, subst, ℕ, ◌+◌, ◌<◌, ◌≤◌, length, arith, Some, None, option_map, OnOk, OnErr}
use Rattle.turk_base.specs.Cells.{look, put, remove}
use Rattle.turk_base.specs.State.{change}
use Rattle.turk_base.specs.Steps.{give, step}
use Rattle.std.specs.Map.{set_value, remove_entry}
use Rattle.value_cells.specs.Needs.{needs}
use Rattle.value_cells.specs.Held.{names_of, own, props_at, key_eq}
use Rattle.value_cells.specs.Seen.{val_in}
use Rattle.value_cells.specs.Does.{Says, Fails, told}
use Rattle.value_cells.proofs.Lists.{count-with}
use Rattle.run_heap.specs.Core.{Core, count, names_in, Rests}
use Rattle.run_heap.specs.Works.{Works}
use Rattle.run_heap.specs.Stored.{core_of}
use Rattle.run_heap.proofs.Turn.{Keeps, works_fails, fails_exit, keeps_same, core}
use Rattle.run_heap.proofs.Whole.{core_kept}
use Rattle.run_heap.proofs.Accesses_facts.{removes, removes_not, removes_it}
use Rattle.run_heap.proofs.RunHeap.remove.Goals as goal

pub returns-then-stays-clause-did : goal.returns-then-stays-clause-did
returns-then-stays-clause-did c =
    let old = c.args.self.now in
    removes c.args.cell c.args.key.now old c.known.ensures.cells c.requires c.kind-kind.result.now c.kind-kind.ensures.kind (λ nu. Says false) old
    (removes_not c.args.cell c.args.key.now c.kind-kind.result.now old (sym c.stays.ensures ∙ c.if-stays.true))

pub returns-clause-did : goal.returns-clause-did
returns-clause-did c =
    let old = c.args.self.now in
    removes c.args.cell c.args.key.now old c.known.ensures.cells c.requires c.kind-kind.result.now c.kind-kind.ensures.kind (λ nu. told (λ b. b) c.take_out.result) c.take_out.new.self
    (removes_it c.args.cell c.args.key.now c.kind-kind.result.now (λ nu. told (λ b. b) c.take_out.result) old c.take_out.new.self (sym c.stays.ensures ∙ c.if-stays.false) c.take_out.ensures.did)
