use Rattle.value_cells.proofs.Kept.{name-told}
use Rattle.value_cells.proofs.Cells.name.Goals as goal

pub returns : goal.returns
returns c = name-told c.self.inside c.args.self.now c.self.view_is c.self.invariant c.args.cell c.index-data.result.now c.requires c.index-data.ensures
