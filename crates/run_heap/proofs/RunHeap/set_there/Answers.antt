use Rattle.std.proofs.Common.{◌≡◌, true, false, refl, ap, sym, ◌∙◌, subst, ℕ, ◌+◌, ◌<◌, ◌≤◌, length, arith, Some, None, option_map, OnOk, OnErr}
use Rattle.turk_base.specs.Cells.{look, put, remove}
use Rattle.turk_base.specs.State.{change}
use Rattle.turk_base.specs.Steps.{give, step}
use Rattle.std.specs.Map.{set_value, remove_entry}
use Rattle.value_cells.specs.Needs.{needs}
use Rattle.value_cells.specs.Held.{names_of, own, props_at, key_eq}
use Rattle.value_cells.specs.Seen.{val_in}
use Rattle.value_cells.specs.Does.{Says, Fails, told}
use Rattle.value_cells.proofs.Lists.{count-with}
use Rattle.run_heap.specs.Core.{Core, count, names_in, Rests}
use Rattle.run_heap.specs.Works.{Works}
use Rattle.run_heap.specs.Stored.{core_of}
use Rattle.run_heap.proofs.Turn.{Keeps, works_fails, fails_exit, keeps_same, core}
use Rattle.run_heap.proofs.Whole.{core_kept}
use Rattle.std.specs.Prelude.{IsSome}
use Rattle.slot_watch.specs.Within.{CellsWithin}
use Rattle.run_heap.proofs.Look.{sets_there, names_same}
use Rattle.run_heap.proofs.RunHeap.set_there.Goals as goal

pub invariant_of-self : goal.invariant_of-self
invariant_of-self c =
    let a = c.self.inside in
    let here : c.args.cell < length a.cells.now = subst (λ (s : Core). c.args.cell < count s) (sym c.self.view_is) c.requires.cell in
    core_kept (core_of a) c.self.invariant a.cells c.wrote.new.self a.left refl c.wrote.ensures.marks.marks refl (c.wrote.ensures.within (length a.cells.now) here c.self.invariant.within)

pub returns-in_err-wrote-clause-did : goal.returns-in_err-wrote-clause-did
returns-in_err-wrote-clause-did c =
    let a = c.self.inside in
    let after = core a.cells c.wrote.new.self a.place a.outer.items a.left in
    fails_exit (λ nu. step (change true (nu c.args.cell) (put c.args.key.now (val_in nu c.args.value))) give) (λ nu u. u) c.from_residual.result c.args.self.now after
    (subst (λ (s : Core). Keeps s after) c.self.view_is (record { path = refl; branch = refl; names = refl })) c.from_residual.ensures.1

pub invariant_of-self-in_err-write : goal.invariant_of-self-in_err-write
invariant_of-self-in_err-write c =
    let a = c.self.inside in
    let here : c.args.cell < length a.cells.now = subst (λ (s : Core). c.args.cell < count s) (sym c.self.view_is) c.requires.cell in
    let same : c.write.new.self.now ≡ a.cells.now = c.in_err-write.ensures.err in
    core_kept (core_of a) c.self.invariant c.write.new.self c.wrote.new.self a.left c.write.ensures.marks c.wrote.ensures.marks.marks (ap names_in same)
    (subst (λ cells. CellsWithin (length cells) c.wrote.new.self.current) (sym same) (c.wrote.ensures.within (length a.cells.now) here c.self.invariant.within))

pub returns-in_err-write-clause-did : goal.returns-in_err-write-clause-did
returns-in_err-write-clause-did c =
    let a = c.self.inside in
    let after = core c.write.new.self c.wrote.new.self a.place a.outer.items a.left in
    fails_exit (λ nu. step (change true (nu c.args.cell) (put c.args.key.now (val_in nu c.args.value))) give) (λ nu u. u) c.from_residual-in_err-write.result c.args.self.now after
    (subst (λ (s : Core). Keeps s after) c.self.view_is (record { path = refl; branch = refl; names = ap names_in c.in_err-write.ensures.err })) c.from_residual-in_err-write.ensures.1

pub invariant_of-self-2 : goal.invariant_of-self-2
invariant_of-self-2 c =
    let a = c.self.inside in
    let here : c.args.cell < length a.cells.now = subst (λ (s : Core). c.args.cell < count s) (sym c.self.view_is) c.requires.cell in
    let ps = set_value (key_eq c.args.key.now) (props_at a.cells.now c.args.cell) c.args.value in
    core_kept (core_of a) c.self.invariant c.write.new.self c.wrote.new.self a.left c.write.ensures.marks c.wrote.ensures.marks.marks
    (ap names_in c.in_ok-write.ensures.ok ∙ names_same a.cells.now c.args.cell ps)
    (subst (λ n. CellsWithin n c.wrote.new.self.current) (sym (ap length c.in_ok-write.ensures.ok ∙ count-with a.cells.now c.args.cell ps)) (c.wrote.ensures.within (length a.cells.now) here c.self.invariant.within))

pub returns-clause-did : goal.returns-clause-did
returns-clause-did c =
    let a = c.self.inside in
    let here : c.args.cell < length a.cells.now = subst (λ (s : Core). c.args.cell < count s) (sym c.self.view_is) c.requires.cell in
    subst (λ (s : Core). Works (λ nu. step (change true (nu c.args.cell) (put c.args.key.now (val_in nu c.args.value))) give) (λ nu. Says tt) s (core c.write.new.self c.wrote.new.self a.place a.outer.items a.left)) c.self.view_is
    (sets_there a.cells a.place a.outer.items a.left c.known.ensures c.args.cell here c.args.key.now c.name-maker.result.now c.name-maker.ensures c.args.value a.slots c.wrote.new.self c.write.new.self
    (subst (λ (s : Core). IsSome (own s.cells.now c.args.cell c.args.key.now)) (sym c.self.view_is) c.requires.there) c.in_ok-write.ensures.ok
    (c.in_ok-wrote.ensures.now (length a.cells.now) here c.self.invariant.within))

pub returns-clause-count : goal.returns-clause-count
returns-clause-count c =
    let a = c.self.inside in
    let ps = set_value (key_eq c.args.key.now) (props_at a.cells.now c.args.cell) c.args.value in
    ap length c.in_ok-write.ensures.ok ∙ count-with a.cells.now c.args.cell ps ∙ ap count c.self.view_is
