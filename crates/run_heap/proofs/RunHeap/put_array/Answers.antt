use Rattle.std.proofs.Common.{sym, ◌∙◌}
use Rattle.value_cells.specs.Does.{told}
use Rattle.run_heap.proofs.Putting.{array_length, array_element}
use Rattle.run_heap.proofs.RunHeap.put_array.Goals as goal

pub returns-then-is_length-clause-did : goal.returns-then-is_length-clause-did
returns-then-is_length-clause-did c =
    array_length c.args.cell c.args.key.now c.args.value (λ nu. told (λ u. u) c.put_length_from.result) c.args.self.now c.put_length_from.new.self (sym c.is_length.ensures ∙ c.if-is_length.true) c.put_length_from.ensures.did

pub returns-clause-did : goal.returns-clause-did
returns-clause-did c =
    array_element c.args.cell c.args.key.now c.args.value (λ nu. told (λ u. u) c.put_element.result) c.args.self.now c.put_element.new.self (sym c.is_length.ensures ∙ c.if-is_length.false) c.put_element.ensures.did
