use Rattle.std.proofs.Common.{◌∙◌, ap, sym, nat_eq, Some}
use Rattle.std.specs.Map.{set_value}
use Rattle.value_cells.specs.Undone.{befores, put}
use Rattle.value_cells.proofs.Undone.{on-ok, noted-write}
use Rattle.value_cells.proofs.history.History.note_write.Goals as goal

pub returns-then-not-is_watched-clause-ok : goal.returns-then-not-is_watched-clause-ok
returns-then-not-is_watched-clause-ok c = λ ds v at. c.is_watched.ensures.free c.if-not-is_watched.true ds (set_value (nat_eq c.args.key) c.args.kept.now.props v)

pub returns-clause-ok : goal.returns-clause-ok
returns-clause-ok c =
    on-ok c.note.result (λ h ds v at.
    (λ i. befores (h i) (c.note.ensures.marks i) (put c.args.cell (set_value (nat_eq c.args.key) c.args.kept.now.props v) ds))
    ∙ noted-write c.args.self.now.steps.items c.args.self.now.marks.items c.requires.nested c.args.cell c.args.kept.now c.args.key c.in_ok-value.value (sym (c.in-Some.ensures) ∙ ap Some (sym c.in_ok-value.ensures)) ds v at)
    c.note.ensures.ok
