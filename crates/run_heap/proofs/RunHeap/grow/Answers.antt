use Rattle.std.proofs.Common.{◌≡◌, true, false, ap, sym, ◌∙◌, subst, ℕ, ◌+◌, suc, arith}
use Rattle.std.specs.Prelude.{pos, IsSome}
use Rattle.turk_base.specs.Cells.{put, grow, length_key}
use Rattle.turk_base.specs.Values as model
use Rattle.turk_base.specs.State.{change}
use Rattle.turk_base.specs.Steps.{give, step}
use Rattle.value_cells.specs.Held.{Key, own}
use Rattle.value_cells.specs.Seen.{Naming, val_in}
use Rattle.value_cells.specs.Does.{told}
use Rattle.run_heap.specs.Lengths.{grows_in}
use Rattle.run_heap.specs.Works.{Works}
use Rattle.run_heap.proofs.Shorter.{grows_it, grows_not}
use Rattle.run_heap.proofs.RunHeap.grow.Goals as goal

pub returns-then-short-clause-did : goal.returns-then-short-clause-did
returns-then-short-clause-did c =
    let old = c.args.self.now in
    let is : c.in-Ok.length ≡ length_key = c.in-Ok.ensures.ok in
    let grows : grows_in c.args.at (own old.cells.now c.args.cell length_key) ≡ true = ap (λ k. grows_in c.args.at (own old.cells.now c.args.cell k)) (sym is) ∙ sym c.short.ensures.grows ∙ c.if-short.true in
    let there = subst (λ (k : Key). IsSome (own old.cells.now c.args.cell k)) is (c.short.ensures.there c.if-short.true) in
    grows_it c.args.cell old c.known.ensures.cells c.requires.cell c.args.at (c.args.at + 1) (omega arith) grows there (λ nu. told (λ u. u) c.set_there.result) c.set_there.new.self
    (subst (λ (k : Key). Works (λ nu. step (change true (nu c.args.cell) (put k (model.Number (pos (c.args.at + 1))))) give) (λ nu. told (λ u. u) c.set_there.result) old c.set_there.new.self) is
    (subst (λ z. Works (λ nu. step (change true (nu c.args.cell) (put c.in-Ok.length (model.Number z))) give) (λ nu. told (λ u. u) c.set_there.result) old c.set_there.new.self) c.from_u32.ensures c.set_there.ensures.did))

pub returns-clause-did : goal.returns-clause-did
returns-clause-did c =
    let old = c.args.self.now in
    let is : c.in-Ok.length ≡ length_key = c.in-Ok.ensures.ok in
    grows_not c.args.cell old c.known.ensures.cells c.requires.cell c.args.at (ap (λ k. grows_in c.args.at (own old.cells.now c.args.cell k)) (sym is) ∙ sym c.short.ensures.grows ∙ c.if-short.false)
