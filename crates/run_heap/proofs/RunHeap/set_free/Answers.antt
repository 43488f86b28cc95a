use Rattle.value_cells.specs.Does.{told}
use Rattle.run_heap.proofs.Free.{sets_free}
use Rattle.run_heap.proofs.RunHeap.set_free.Goals as goal

pub returns-then-has-clause-did : goal.returns-then-has-clause-did
returns-then-has-clause-did c =
    sets_free c.args.cell c.args.self.now c.known.ensures.cells c.requires.cell c.args.key.now c.args.value (c.has.ensures.there c.if-has.true) (λ nu. told (λ u. u) c.set_there.result) c.set_there.new.self c.set_there.ensures.did
