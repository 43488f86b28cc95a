use Rattle.std.proofs.Common.{◌∙◌, ap}
use Rattle.value_cells.specs.Undone.{befores, put}
use Rattle.value_cells.proofs.Undone.{noted-all}
use Rattle.value_cells.proofs.history.History.note_all.Goals as goal

pub returns-then-not-is_watched-clause-ok : goal.returns-then-not-is_watched-clause-ok
returns-then-not-is_watched-clause-ok c = λ ds es at. c.is_watched.ensures.free c.if-not-is_watched.true ds es

pub returns-clause-ok : goal.returns-clause-ok
returns-clause-ok c = λ ds es at.
    (λ i. befores ((c.remember.ensures.steps ∙ c.in_ok-note.ensures.ok) i) ((c.remember.ensures.marks ∙ c.note.ensures.marks) i) (put c.args.cell es ds))
    ∙ noted-all c.args.self.now.steps.items c.args.self.now.marks.items c.requires.nested c.args.cell c.args.kept.now c.in_ok-copy.copy (ap (λ ps. ps) c.in_ok-copy.ensures) ds es at
