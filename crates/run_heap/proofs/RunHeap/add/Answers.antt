use Rattle.std.proofs.Common.{false, subst, sym}
use Rattle.turk_base.specs.State.{make as make_cell}
use Rattle.turk_base.specs.Steps.{give, step}
use Rattle.value_cells.specs.Seen.{kind_in}
use Rattle.value_cells.specs.Does.{told}
use Rattle.run_heap.specs.Works.{Works}
use Rattle.run_heap.proofs.RunHeap.add.Goals as goal

pub returns-in-Array-clause-did : goal.returns-in-Array-clause-did
returns-in-Array-clause-did c = subst (λ k. Works (λ nu. step (make_cell false (kind_in nu k)) give) (λ nu. told nu c.add_array.result) c.args.self.now c.add_array.new.self) (sym c.in-Array.is) c.add_array.ensures.did
