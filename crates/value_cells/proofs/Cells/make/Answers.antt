use Rattle.std.proofs.Common.{◌∙◌, sym, ap, subst, refl, map, length, arith}
use Rattle.value_cells.specs.Held.{IsWhole}
use Rattle.value_cells.specs.Named.{AreNumbers, stored, IsNumbered}
use Rattle.value_cells.specs.Stored.{AreKept}
use Rattle.value_cells.specs.Undone.{befores}
use Rattle.value_cells.proofs.Named.{all_pushed}
use Rattle.value_cells.proofs.Undone.{made-past, length-push}
use Rattle.value_cells.proofs.Kept.{made, whole-made, good-changed}
use Rattle.value_cells.proofs.Cells.make.Goals as goal
use Rattle.value_cells.proofs.Cells.make.Goals.{in-Ok, in-Err}

pub invariant_of-self : goal.invariant_of-self
invariant_of-self c =
    let a = c.self.inside in let good = c.self.invariant in let ss = a.history.steps.items in let ps = a.history.marks.items in
    elim c.match-push.branch [
      | in-Ok w ↦ good-changed a good c.push.new.self a.history
          (record {
            whole = subst (λ ds. IsWhole (stored a.keys ds)) (sym w.in-Ok.ensures.items)
                (whole-made a c.args.self.now c.self.view_is good (record { name = c.args.name; kind = c.args.kind; props = c.new.result }) c.new.ensures c.requires.kind c.requires.fresh);
            numbers = subst (IsNumbered a.keys) (sym w.in-Ok.ensures.items)
                (all_pushed a.keys a.cells.items (record { name = c.args.name; kind = c.args.kind; props = c.new.result }) good.now.numbers (subst (AreNumbers a.keys) (sym c.new.ensures) tt));
          })
          (ap (befores ss ps) w.in-Ok.ensures.items ∙ made-past ss ps a.cells.items (record { name = c.args.name; kind = c.args.kind; props = c.new.result }) good.within)
          refl (omega arith)
          (let long = ap length w.in-Ok.ensures.items ∙ length-push a.cells.items (record { name = c.args.name; kind = c.args.kind; props = c.new.result }) in omega (arith, long))
      | in-Err w ↦ good-changed a good c.push.new.self a.history (subst (AreKept a.keys) (sym w.in-Err.ensures.items) good.now) (ap (befores ss ps) w.in-Err.ensures.items) refl (omega arith)
          (let long = ap length w.in-Err.ensures.items in omega (arith, long))
    ]

pub returns-clause-ok : goal.returns-clause-ok
returns-clause-ok c =
    let a = c.self.inside in
    elim c.match-push.branch [
      | in-Ok w ↦ rw w.result-is (ap (stored a.keys) w.in-Ok.ensures.items ∙ made a c.args.self.now c.self.view_is c.self.invariant (record { name = c.args.name; kind = c.args.kind; props = c.new.result }) c.new.ensures)
      | in-Err w ↦ rw w.result-is tt
    ]

pub returns-clause-marks : goal.returns-clause-marks
returns-clause-marks c =
    let a = c.self.inside in let ss = a.history.steps.items in let ps = a.history.marks.items in
    elim c.match-push.branch [
      | in-Ok w ↦ ap (map (stored a.keys)) (ap (befores ss ps) w.in-Ok.ensures.items ∙ made-past ss ps a.cells.items (record { name = c.args.name; kind = c.args.kind; props = c.new.result }) c.self.invariant.within)
          ∙ ap (λ h. h.marks) c.self.view_is
      | in-Err w ↦ ap (λ ds. map (stored a.keys) (befores ss ps ds)) w.in-Err.ensures.items ∙ ap (λ h. h.marks) c.self.view_is
    ]
