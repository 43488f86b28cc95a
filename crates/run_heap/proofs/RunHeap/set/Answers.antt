use Rattle.std.proofs.Common.{◌≡◌, true, false, refl, ap, sym, ◌∙◌, subst, ℕ, ◌+◌, ◌<◌, ◌≤◌, length, arith, Some, None, option_map, OnOk, OnErr}
use Rattle.turk_base.specs.Cells.{look, put, remove}
use Rattle.turk_base.specs.State.{change}
use Rattle.turk_base.specs.Steps.{give, step}
use Rattle.std.specs.Map.{set_value, remove_entry}
use Rattle.value_cells.specs.Needs.{needs}
use Rattle.value_cells.specs.Held.{names_of, own, props_at, key_eq}
use Rattle.value_cells.specs.Seen.{val_in}
use Rattle.value_cells.specs.Does.{Says, Fails, told}
use Rattle.value_cells.proofs.Lists.{count-with}
use Rattle.run_heap.specs.Core.{Core, count, names_in, Rests}
use Rattle.run_heap.specs.Works.{Works}
use Rattle.run_heap.specs.Stored.{core_of}
use Rattle.run_heap.proofs.Turn.{Keeps, works_fails, fails_exit, keeps_same, core}
use Rattle.run_heap.proofs.Whole.{core_kept}
use Rattle.std.proofs.Common.{◌-◌}
use Rattle.value_cells.specs.Does.{told_stop}
use Rattle.value_cells.specs.declared.OpStop.TheVariants as stop
use Rattle.run_heap.proofs.Turn.{err_exit}
use Rattle.run_heap.proofs.Whole.{rests_then}
use Rattle.run_heap.proofs.Look.{set_spends, set_paid}
use Rattle.run_heap.proofs.RunHeap.set.Goals as goal

pub returns-in_err-pay-clause-did : goal.returns-in_err-pay-clause-did
returns-in_err-pay-clause-did c =
    let old = c.args.self.now in
    let h = c.in_err-pay.ensures.spent in
    err_exit (λ nu. step (change true (nu c.args.cell) (put c.args.key.now (val_in nu c.args.value))) give) (λ nu u. u) c.from_residual.result c.in_err-pay.field-0.0 old c.pay.new.self c.from_residual.ensures.1
    (subst (λ e. Works (λ nu. step (change true (nu c.args.cell) (put c.args.key.now (val_in nu c.args.value))) give) (λ nu. told_stop e) old c.pay.new.self) (sym h.0)
    (subst (λ (s : Core). Works (λ nu. step (change true (nu c.args.cell) (put c.args.key.now (val_in nu c.args.value))) give) (λ nu. told_stop stop.Spent) old s) (sym h.2)
    (set_spends old c.known.ensures.cells c.args.cell c.requires.cell c.args.key.now c.args.value (c.has.ensures.missing c.if-has.false) h.1)))

pub returns-clause-did : goal.returns-clause-did
returns-clause-did c =
    let old = c.args.self.now in
    let h = c.in_ok-pay.ensures.paid in
    set_paid old c.known.ensures.cells c.args.cell c.requires.cell c.args.key.now c.args.value (c.has.ensures.missing c.if-has.false) (λ nu. told (λ u. u) c.create.result) c.create.new.self h.0
    (subst (λ (s : Core). Works (λ nu. step (change false (nu c.args.cell) (put c.args.key.now (val_in nu c.args.value))) give) (λ nu. told (λ u. u) c.create.result) s c.create.new.self) h.1 c.create.ensures.did)

pub returns-clause-rests : goal.returns-clause-rests
returns-clause-rests c = rests_then c.args.self.now c.pay.new.self c.create.new.self c.pay.ensures.rests c.create.ensures.rests
