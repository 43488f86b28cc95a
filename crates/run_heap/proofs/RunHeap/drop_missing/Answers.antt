use Rattle.std.proofs.Common.{◌≡◌, true, false, refl, ap, sym, ◌∙◌, subst, ℕ, ◌+◌, ◌<◌, ◌≤◌, length, arith, Some, None, option_map, OnOk, OnErr}
use Rattle.turk_base.specs.Cells.{look, put, remove}
use Rattle.turk_base.specs.State.{change}
use Rattle.turk_base.specs.Steps.{give, step}
use Rattle.std.specs.Map.{set_value, remove_entry}
use Rattle.value_cells.specs.Needs.{needs}
use Rattle.value_cells.specs.Held.{names_of, own, props_at, key_eq}
use Rattle.value_cells.specs.Seen.{val_in}
use Rattle.value_cells.specs.Does.{Says, Fails, told}
use Rattle.value_cells.proofs.Lists.{count-with}
use Rattle.run_heap.specs.Core.{Core, count, names_in, Rests}
use Rattle.run_heap.specs.Works.{Works}
use Rattle.run_heap.specs.Stored.{core_of}
use Rattle.run_heap.proofs.Turn.{Keeps, works_fails, fails_exit, keeps_same, core}
use Rattle.run_heap.proofs.Whole.{core_kept}
use Rattle.run_heap.proofs.Look.{drops_none}
use Rattle.run_heap.proofs.RunHeap.drop_missing.Goals as goal

pub invariant_of-self : goal.invariant_of-self
invariant_of-self c =
    let a = c.self.inside in
    let here : c.args.cell < length a.cells.now = subst (λ (s : Core). c.args.cell < count s) (sym c.self.view_is) c.requires.cell in
    core_kept (core_of a) c.self.invariant a.cells c.touch_shape.new.self a.left refl c.touch_shape.ensures.marks.marks refl (c.touch_shape.ensures.within (length a.cells.now) here c.self.invariant.within)

pub returns-clause-did : goal.returns-clause-did
returns-clause-did c =
    let a = c.self.inside in
    let here : c.args.cell < length a.cells.now = subst (λ (s : Core). c.args.cell < count s) (sym c.self.view_is) c.requires.cell in
    subst (λ (s : Core). Works (λ nu. step (change true (nu c.args.cell) (remove c.args.key.now)) give) (λ nu. Says tt) s (core a.cells c.touch_shape.new.self a.place a.outer.items a.left)) c.self.view_is
    (drops_none a.cells a.place a.outer.items a.left c.known.ensures c.args.cell here c.args.key.now a.slots c.touch_shape.new.self (c.touch_shape.ensures.now (length a.cells.now) here c.self.invariant.within)
    (subst (λ (s : Core). own s.cells.now c.args.cell c.args.key.now ≡ None) (sym c.self.view_is) c.requires.missing))
