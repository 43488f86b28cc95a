use Rattle.std.proofs.Common.{◌∙◌, ◌∷◌, [], ◌++◌}
use Rattle.value_cells.specs.Undone.{befores, put}
use Rattle.value_cells.proofs.Undone.{on-ok, noted-create, noted-none}
use Rattle.value_cells.proofs.history.History.note_create.Goals as goal

pub returns-then-not-is_watched-clause-ok : goal.returns-then-not-is_watched-clause-ok
returns-then-not-is_watched-clause-ok c = λ ds d v at none. (c.is_watched.ensures.free c.if-not-is_watched.true ds (d.props ++ (c.args.key, v) ∷ []), λ i. befores c.args.self.now.steps.items c.args.self.now.marks.items ds)

pub returns-clause-ok : goal.returns-clause-ok
returns-clause-ok c =
    let ss = c.args.self.now.steps.items in let ps = c.args.self.now.marks.items in
    on-ok c.note.result (λ h ds d v at none. (
      (λ i. befores (h i) (c.note.ensures.marks i) (put c.args.cell (d.props ++ (c.args.key, v) ∷ []) ds)) ∙ noted-create ss ps c.requires.nested c.args.cell d c.args.key ds v at none,
      (λ i. befores (h i) (c.note.ensures.marks i) ds) ∙ noted-none ss ps c.requires.nested c.args.cell d c.args.key ds at none,
    ))
    c.note.ensures.ok
