use Rattle.std.proofs.Common.{◌≡◌, true, false, refl, ap, sym, ◌∙◌, subst, ℕ, ◌<◌, length, arith, Some, None, option_map}
use Rattle.turk_base.specs.Cells.{look, put, remove}
use Rattle.turk_base.specs.State.{change}
use Rattle.turk_base.specs.Steps.{give, step}
use Rattle.value_cells.specs.Held.{names_of, own}
use Rattle.value_cells.specs.Seen.{val_in}
use Rattle.value_cells.specs.Does.{Says, Fails, told}
use Rattle.run_heap.specs.Core.{Core, count}
use Rattle.run_heap.specs.Works.{Works}
use Rattle.run_heap.specs.Stored.{core_of}
use Rattle.run_heap.proofs.Turn.{Keeps, works_fails, fails_exit, keeps_same, core}
use Rattle.run_heap.proofs.Whole.{core_kept}
use Rattle.run_heap.proofs.Look.{looks_none, looks_some}
use Rattle.run_heap.proofs.RunHeap.look.Goals as goal

pub invariant_of-self : goal.invariant_of-self
invariant_of-self c =
    let a = c.self.inside in
    let here : c.args.cell < length a.cells.now = subst (λ (s : Core). c.args.cell < count s) (sym c.self.view_is) c.requires in
    core_kept (core_of a) c.self.invariant a.cells c.touch_shape.new.self a.left refl c.touch_shape.ensures.marks.marks refl (c.touch_shape.ensures.within (length a.cells.now) here c.self.invariant.within)

pub invariant_of-self-in-Some : goal.invariant_of-self-in-Some
invariant_of-self-in-Some c =
    let a = c.self.inside in
    let here : c.args.cell < length a.cells.now = subst (λ (s : Core). c.args.cell < count s) (sym c.self.view_is) c.requires in
    core_kept (core_of a) c.self.invariant a.cells c.touch.new.self a.left refl c.touch.ensures.marks.marks refl (c.touch.ensures.within (length a.cells.now) here c.self.invariant.within)

pub returns-in-None-clause-did : goal.returns-in-None-clause-did
returns-in-None-clause-did c =
    let a = c.self.inside in
    let here : c.args.cell < length a.cells.now = subst (λ (s : Core). c.args.cell < count s) (sym c.self.view_is) c.requires in
    subst (λ (s : Core). Works (λ nu. step (change true (nu c.args.cell) (look c.args.key.now)) give) (λ nu. Says None) s (core a.cells c.touch_shape.new.self a.place a.outer.items a.left)) c.self.view_is
    (looks_none a.cells a.place a.outer.items a.left c.known.ensures c.args.cell here c.args.key.now a.slots c.touch_shape.new.self (sym c.in-None.ensures.value)
    (c.touch_shape.ensures.now (length a.cells.now) here c.self.invariant.within))

pub returns-in_ok-copy-in-Some-clause-did : goal.returns-in_ok-copy-in-Some-clause-did
returns-in_ok-copy-in-Some-clause-did c =
    let a = c.self.inside in
    let here : c.args.cell < length a.cells.now = subst (λ (s : Core). c.args.cell < count s) (sym c.self.view_is) c.requires in
    subst (λ (s : Core). Works (λ nu. step (change true (nu c.args.cell) (look c.args.key.now)) give) (λ nu. Says (Some (val_in nu c.in_ok-copy-in-Some.copy))) s (core a.cells c.touch.new.self a.place a.outer.items a.left)) c.self.view_is
    (looks_some a.cells a.place a.outer.items a.left c.known.ensures c.args.cell here c.args.key.now a.slots c.touch.new.self c.in_ok-copy-in-Some.copy (sym c.in-Some.ensures.value ∙ ap Some (sym c.in_ok-copy-in-Some.ensures))
    (c.touch.ensures.now (length a.cells.now) here c.self.invariant.within))

pub returns-in_err-copy-in-Some-clause-did : goal.returns-in_err-copy-in-Some-clause-did
returns-in_err-copy-in-Some-clause-did c =
    fails_exit (λ nu. step (change true (nu c.args.cell) (look c.args.key.now)) give) (λ nu. option_map (val_in nu)) c.from_residual.result c.args.self.now c.args.self.now (keeps_same c.args.self.now) c.from_residual.ensures.1
