use Rattle.value_cells.proofs.Kept.{kind-told, older-told}
use Rattle.value_cells.proofs.Cells.kind.Goals as goal

pub returns-clause-kind : goal.returns-clause-kind
returns-clause-kind c = kind-told c.self.inside c.args.self.now c.self.view_is c.self.invariant c.args.cell c.index-data.result.now c.requires c.index-data.ensures

pub returns-clause-older : goal.returns-clause-older
returns-clause-older c = older-told c.self.inside c.args.self.now c.self.view_is c.self.invariant c.args.cell c.index-data.result.now c.requires c.index-data.ensures
