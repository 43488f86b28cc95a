use Rattle.value_cells.proofs.Kept.{distinct-told}
use Rattle.value_cells.proofs.Cells.keys.Goals as goal

pub returns-clause-distinct : goal.returns-clause-distinct
returns-clause-distinct c = distinct-told c.self.inside c.args.self.now c.self.view_is c.self.invariant c.args.cell c.index-data.result.now c.requires c.index-data.ensures c.len.ensures.distinct
