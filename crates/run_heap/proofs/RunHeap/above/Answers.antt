use Rattle.std.proofs.Common.{◌≡◌, ap, ◌∙◌, subst, ℕ, ◌≤◌, Some, slice_get}
use Rattle.run_heap.proofs.Accesses_facts.{plain_chain}
use Rattle.value_cells.specs.Held.{kinds_of}
use Rattle.value_cells.specs.Needs.{kind_needs}
use Rattle.value_cells.specs.declared.CellKind.{CellKind}
use Rattle.value_cells.specs.declared.CellKind.TheVariants.{Plain}
use Rattle.run_heap.specs.Core.{Core}
use Rattle.run_heap.proofs.RunHeap.above.Goals as goal

pub returns-in-Plain-clause-chain : goal.returns-in-Plain-clause-chain
returns-in-Plain-clause-chain c =
    let at : slice_get (kinds_of c.self.inside.cells.now) c.args.cell ≡ Some (Plain c.in-Plain.prototype) = c.kind.ensures.kind ∙ ap Some c.in-Plain.is in
    plain_chain (kinds_of c.args.self.now.cells.now) (subst (λ (s : Core). (i : ℕ) (k : CellKind) → slice_get (kinds_of s.cells.now) i ≡ Some k → kind_needs k ≤ i) c.self.view_is c.known.ensures.older) c.args.cell c.in-Plain.prototype
    (subst (λ (s : Core). slice_get (kinds_of s.cells.now) c.args.cell ≡ Some (Plain c.in-Plain.prototype)) c.self.view_is at)
