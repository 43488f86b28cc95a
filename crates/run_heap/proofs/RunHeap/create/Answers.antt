use Rattle.std.proofs.Common.{◌≡◌, true, false, refl, ap, sym, ◌∙◌, subst, ℕ, ◌+◌, ◌<◌, ◌≤◌, length, arith, Some, None, option_map, OnOk, OnErr}
use Rattle.turk_base.specs.Cells.{look, put, remove}
use Rattle.turk_base.specs.State.{change}
use Rattle.turk_base.specs.Steps.{give, step}
use Rattle.std.specs.Map.{set_value, remove_entry}
use Rattle.value_cells.specs.Needs.{needs}
use Rattle.value_cells.specs.Held.{names_of, own, props_at, key_eq}
use Rattle.value_cells.specs.Seen.{val_in}
use Rattle.value_cells.specs.Does.{Says, Fails, told}
use Rattle.value_cells.proofs.Lists.{count-with}
use Rattle.run_heap.specs.Core.{Core, count, names_in, Rests}
use Rattle.run_heap.specs.Works.{Works}
use Rattle.run_heap.specs.Stored.{core_of}
use Rattle.run_heap.proofs.Turn.{Keeps, works_fails, fails_exit, keeps_same, core}
use Rattle.run_heap.proofs.Whole.{core_kept}
use Rattle.std.proofs.Common.{◌++◌, ◌∷◌, []}
use Rattle.slot_watch.specs.Within.{CellsWithin}
use Rattle.run_heap.proofs.Look.{creates, names_same}
use Rattle.run_heap.proofs.RunHeap.create.Goals as goal

pub invariant_of-self : goal.invariant_of-self
invariant_of-self c =
    let a = c.self.inside in
    let here : c.args.cell < length a.cells.now = subst (λ (s : Core). c.args.cell < count s) (sym c.self.view_is) c.requires.cell in
    core_kept (core_of a) c.self.invariant a.cells c.wrote.new.self a.left refl c.wrote.ensures.marks.marks refl (c.wrote.ensures.within (length a.cells.now) here c.self.invariant.within)

pub returns-in_err-wrote-clause-did : goal.returns-in_err-wrote-clause-did
returns-in_err-wrote-clause-did c =
    let a = c.self.inside in
    let after = core a.cells c.wrote.new.self a.place a.outer.items a.left in
    fails_exit (λ nu. step (change false (nu c.args.cell) (put c.args.key.now (val_in nu c.args.value))) give) (λ nu u. u) c.from_residual-in_err-wrote.result c.args.self.now after
    (subst (λ (s : Core). Keeps s after) c.self.view_is (record { path = refl; branch = refl; names = refl })) c.from_residual-in_err-wrote.ensures.1

pub invariant_of-self-in_err-wrote_shape : goal.invariant_of-self-in_err-wrote_shape
invariant_of-self-in_err-wrote_shape c =
    let a = c.self.inside in
    let here : c.args.cell < length a.cells.now = subst (λ (s : Core). c.args.cell < count s) (sym c.self.view_is) c.requires.cell in
    core_kept (core_of a) c.self.invariant a.cells c.wrote_shape.new.self a.left refl (c.wrote_shape.ensures.marks.marks ∙ c.wrote.ensures.marks.marks) refl
    (c.wrote_shape.ensures.within (length a.cells.now) here (c.wrote.ensures.within (length a.cells.now) here c.self.invariant.within))

pub returns-in_err-wrote_shape-clause-did : goal.returns-in_err-wrote_shape-clause-did
returns-in_err-wrote_shape-clause-did c =
    let a = c.self.inside in
    let after = core a.cells c.wrote_shape.new.self a.place a.outer.items a.left in
    fails_exit (λ nu. step (change false (nu c.args.cell) (put c.args.key.now (val_in nu c.args.value))) give) (λ nu u. u) c.from_residual-in_err-wrote_shape.result c.args.self.now after
    (subst (λ (s : Core). Keeps s after) c.self.view_is (record { path = refl; branch = refl; names = refl })) c.from_residual-in_err-wrote_shape.ensures.1

pub invariant_of-self-in_err-create : goal.invariant_of-self-in_err-create
invariant_of-self-in_err-create c =
    let a = c.self.inside in
    let here : c.args.cell < length a.cells.now = subst (λ (s : Core). c.args.cell < count s) (sym c.self.view_is) c.requires.cell in
    let same : c.create.new.self.now ≡ a.cells.now = c.in_err-create.ensures.err in
    core_kept (core_of a) c.self.invariant c.create.new.self c.wrote_shape.new.self a.left c.create.ensures.marks (c.wrote_shape.ensures.marks.marks ∙ c.wrote.ensures.marks.marks) (ap names_in same)
    (subst (λ cells. CellsWithin (length cells) c.wrote_shape.new.self.current) (sym same) (c.wrote_shape.ensures.within (length a.cells.now) here (c.wrote.ensures.within (length a.cells.now) here c.self.invariant.within)))

pub returns-in_err-create-clause-did : goal.returns-in_err-create-clause-did
returns-in_err-create-clause-did c =
    let a = c.self.inside in
    let after = core c.create.new.self c.wrote_shape.new.self a.place a.outer.items a.left in
    fails_exit (λ nu. step (change false (nu c.args.cell) (put c.args.key.now (val_in nu c.args.value))) give) (λ nu u. u) c.from_residual-in_err-create.result c.args.self.now after
    (subst (λ (s : Core). Keeps s after) c.self.view_is (record { path = refl; branch = refl; names = ap names_in c.in_err-create.ensures.err })) c.from_residual-in_err-create.ensures.1

pub invariant_of-self-2 : goal.invariant_of-self-2
invariant_of-self-2 c =
    let a = c.self.inside in
    let here : c.args.cell < length a.cells.now = subst (λ (s : Core). c.args.cell < count s) (sym c.self.view_is) c.requires.cell in
    let ps = props_at a.cells.now c.args.cell ++ (c.in_ok-key.key, c.args.value) ∷ [] in
    core_kept (core_of a) c.self.invariant c.create.new.self c.wrote_shape.new.self a.left c.create.ensures.marks (c.wrote_shape.ensures.marks.marks ∙ c.wrote.ensures.marks.marks)
    (ap names_in c.in_ok-create.ensures.ok ∙ names_same a.cells.now c.args.cell ps)
    (subst (λ n. CellsWithin n c.wrote_shape.new.self.current) (sym (ap length c.in_ok-create.ensures.ok ∙ count-with a.cells.now c.args.cell ps)) (c.wrote_shape.ensures.within (length a.cells.now) here (c.wrote.ensures.within (length a.cells.now) here c.self.invariant.within)))

pub returns-clause-did : goal.returns-clause-did
returns-clause-did c =
    let a = c.self.inside in
    let here : c.args.cell < length a.cells.now = subst (λ (s : Core). c.args.cell < count s) (sym c.self.view_is) c.requires.cell in
    let missing : own a.cells.now c.args.cell c.in_ok-key.key ≡ None = ap (own a.cells.now c.args.cell) c.in_ok-key.ensures ∙ subst (λ (s : Core). own s.cells.now c.args.cell c.args.key.now ≡ None) (sym c.self.view_is) c.requires.missing in
    subst (λ k. Works (λ nu. step (change false (nu c.args.cell) (put k (val_in nu c.args.value))) give) (λ nu. Says tt) c.args.self.now (core c.create.new.self c.wrote_shape.new.self a.place a.outer.items a.left)) c.in_ok-key.ensures
    (subst (λ (s : Core). Works (λ nu. step (change false (nu c.args.cell) (put c.in_ok-key.key (val_in nu c.args.value))) give) (λ nu. Says tt) s (core c.create.new.self c.wrote_shape.new.self a.place a.outer.items a.left)) c.self.view_is
    (creates a.cells a.place a.outer.items a.left c.known.ensures c.args.cell here c.in_ok-key.key c.name-maker.result.now c.name-maker.ensures c.args.value a.slots c.wrote.new.self c.wrote_shape.new.self c.create.new.self
    missing c.in_ok-create.ensures.ok
    (c.in_ok-wrote.ensures.now (length a.cells.now) here c.self.invariant.within)
    (c.in_ok-wrote_shape.ensures.now (length a.cells.now) here (c.wrote.ensures.within (length a.cells.now) here c.self.invariant.within))))

pub returns-clause-count : goal.returns-clause-count
returns-clause-count c =
    let a = c.self.inside in
    let ps = props_at a.cells.now c.args.cell ++ (c.in_ok-key.key, c.args.value) ∷ [] in
    ap length c.in_ok-create.ensures.ok ∙ count-with a.cells.now c.args.cell ps ∙ ap count c.self.view_is
