use Rattle.std.proofs.Common.{◌∙◌, ap, arith, length, refl}
use Rattle.value_cells.proofs.Undone.{length-push, undoing-none, undoing-one, undoing-cells, undoing-steps}
use Rattle.value_cells.proofs.history.History.undo_since.Goals as goal
use Rattle.value_cells.proofs.history.History.undo_since.Goals.{in-Some, in_default}

pub loop-init : goal.loop-init
loop-init c = (undoing-none c.args.self.now.steps.items c.args.cells.now.items, (omega (arith, c.len-end.ensures, c.args.self.now.steps.ok.0), refl))

pub loop-preserved : goal.loop-preserved
loop-preserved c =
    let now = c.loop.self.steps.items in
    elim c.match-pop.branch [
      | in-Some w ↦ (
        undoing-one c.args.self.now.steps.items now c.pop.new.self.items w.in-Some.step c.args.cells.now.items c.loop.cells.items c.match-pop.cells.items c.loop.invariant.0 w.in-Some.ensures.items
            (ap (λ v. v.items) w.cells-is ∙ w.undo_step.ensures),
        (let long = ap length w.in-Some.ensures.items ∙ length-push c.pop.new.self.items w.in-Some.step in omega (arith, c.loop.invariant.1.0, long), c.loop.invariant.1.1),
      )
      | in_default w ↦ absurd (omega (arith, c.loop.invariant.1.0, c.loop-test.true, w.in_default.ensures.cases.0, c.loop.self.steps.ok.0))
    ]

pub returns-clause-cells : goal.returns-clause-cells
returns-clause-cells c =
    undoing-cells c.args.self.now.steps.items c.loop.self.steps.items c.args.cells.now.items c.loop.cells.items c.loop.invariant.0 c.args.from
    (omega (arith, c.loop.invariant.1.0, c.loop-test.false, c.loop.auto.counter-end, c.requires, c.len-end.ensures, c.args.self.now.steps.ok.0))

pub returns-clause-steps : goal.returns-clause-steps
returns-clause-steps c =
    undoing-steps c.args.self.now.steps.items c.loop.self.steps.items c.args.cells.now.items c.loop.cells.items c.loop.invariant.0 c.args.from
    (omega (arith, c.loop.invariant.1.0, c.loop-test.false, c.loop.auto.counter-end, c.requires, c.len-end.ensures, c.args.self.now.steps.ok.0))

pub returns-clause-marks : goal.returns-clause-marks
returns-clause-marks c = c.loop.invariant.1.1
