use Rattle.std.proofs.Common.{sym, ◌∙◌, Some, None}
use Rattle.value_cells.proofs.Kept.{key-told, number-told, key-read}
use Rattle.value_cells.proofs.Cells.key_at.Goals as goal

pub returns-in-Some : goal.returns-in-Some
returns-in-Some c =
    let a = c.self.inside in let d = c.index-data.result.now in let n = c.in-Some.number.now in
    key-read a.keys n c.key.result (number-told a c.args.self.now c.self.view_is c.self.invariant c.args.cell d c.requires c.index-data.ensures c.args.place n (sym c.in-Some.ensures)) c.key.ensures.key c.key.ensures.none
    ∙ key-told a c.args.self.now c.self.view_is c.self.invariant c.args.cell d c.requires c.index-data.ensures c.args.place (Some n) (sym c.in-Some.ensures)

pub returns-in-None : goal.returns-in-None
returns-in-None c = key-told c.self.inside c.args.self.now c.self.view_is c.self.invariant c.args.cell c.index-data.result.now c.requires c.index-data.ensures c.args.place None (sym c.in-None.ensures)
