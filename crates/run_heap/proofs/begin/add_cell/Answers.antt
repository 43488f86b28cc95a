use Rattle.std.proofs.Common.{arith}
use Rattle.run_heap.proofs.Beginnings.{counted_made}
use Rattle.run_heap.proofs.begin.add_cell.Goals as goal

pub returns-clause-counted : goal.returns-clause-counted
returns-clause-counted c = counted_made c.args.cells.now.now c.make.new.self.now _ c.in_ok-cell.ensures.ok c.requires.counted (omega (arith, c.count.ensures))
