use Rattle.run_heap.proofs.Made.{bare_works}
use Rattle.run_heap.proofs.RunHeap.add_bare.Goals as goal

pub returns-clause-did : goal.returns-clause-did
returns-clause-did c = bare_works c.args.kind c.add_cell.result c.args.self.now c.add_cell.new.self c.known.ensures.cells c.requires.bare c.requires.kind c.add_cell.ensures.adds c.add_cell.ensures.err
