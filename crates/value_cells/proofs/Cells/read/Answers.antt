use Rattle.std.proofs.Common.{sym, ◌∙◌, nat_eq}
use Rattle.std.specs.Map.{lookup}
use Rattle.value_cells.specs.Held.{count}
use Rattle.value_cells.proofs.Kept.{no-own, value-told, value-exists, exists-read}
use Rattle.value_cells.proofs.Cells.read.Goals as goal

pub returns-in-Some-clause-value : goal.returns-in-Some-clause-value
returns-in-Some-clause-value c =
    c.get.ensures
    ∙ value-told c.self.inside c.args.self.now c.self.view_is c.self.invariant c.args.cell c.index-data.result.now c.requires c.index-data.ensures c.args.key.now c.in-Some.number c.in-Some.ensures

pub returns-in-Some-clause-exists : goal.returns-in-Some-clause-exists
returns-in-Some-clause-exists c =
    let d = c.index-data.result.now in let n = c.in-Some.number in
    exists-read (count c.args.self.now.now) c.get.result (lookup (nat_eq n) d.props) c.get.ensures
    (value-exists c.self.inside c.args.self.now c.self.view_is c.self.invariant c.args.cell d c.requires c.index-data.ensures c.args.key.now n c.in-Some.ensures)

pub returns-in-None-clause-value : goal.returns-in-None-clause-value
returns-in-None-clause-value c = sym (no-own c.self.inside c.args.self.now c.self.view_is c.self.invariant c.args.cell c.args.key.now c.in-None.ensures)
