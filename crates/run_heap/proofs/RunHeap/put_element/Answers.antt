use Rattle.std.proofs.Common.{◌≡◌, ap, ◌∙◌}
use Rattle.turk_base.specs.Cells.{class_of, index, past, named}
use Rattle.value_cells.specs.Does.{told}
use Rattle.run_heap.proofs.Putting.{element_as, element_past}
use Rattle.run_heap.proofs.RunHeap.put_element.Goals as goal

pub returns-in-Index-clause-did : goal.returns-in-Index-clause-did
returns-in-Index-clause-did c =
    element_as c.args.cell c.args.key.now c.args.value (index c.in-Index.at) (λ nu. told (λ u. u) c.put_index.result) c.args.self.now c.put_index.new.self (c.in-Index.ensures ∙ ap class_of c.as_slice.ensures) c.put_index.ensures.did

pub returns-in-Past-clause-did : goal.returns-in-Past-clause-did
returns-in-Past-clause-did c = element_past c.args.cell c.args.key.now c.args.value c.args.self.now (c.in-Past.ensures ∙ ap class_of c.as_slice.ensures)

pub returns-in-Named-clause-did : goal.returns-in-Named-clause-did
returns-in-Named-clause-did c =
    element_as c.args.cell c.args.key.now c.args.value named (λ nu. told (λ u. u) c.set.result) c.args.self.now c.set.new.self (c.in-Named.ensures ∙ ap class_of c.as_slice.ensures) c.set.ensures.did
