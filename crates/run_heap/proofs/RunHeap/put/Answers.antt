use Rattle.std.proofs.Common.{sym, ◌∙◌}
use Rattle.value_cells.specs.Does.{told}
use Rattle.run_heap.proofs.Putting.{puts_array, puts_plain}
use Rattle.run_heap.proofs.RunHeap.put.Goals as goal

pub returns-then-is_array-clause-did : goal.returns-then-is_array-clause-did
returns-then-is_array-clause-did c =
    puts_array c.args.cell c.args.key.now c.args.value c.args.self.now c.known.ensures.cells c.requires.cell c.kind.result.now c.kind.ensures.kind (sym c.is_array.ensures ∙ c.if-is_array.true)
    (λ nu. told (λ u. u) c.put_array.result) c.put_array.new.self c.put_array.ensures.did

pub returns-clause-did : goal.returns-clause-did
returns-clause-did c =
    puts_plain c.args.cell c.args.key.now c.args.value c.args.self.now c.known.ensures.cells c.requires.cell c.kind.result.now c.kind.ensures.kind (sym c.is_array.ensures ∙ c.if-is_array.false)
    (λ nu. told (λ u. u) c.set.result) c.set.new.self c.set.ensures.did
