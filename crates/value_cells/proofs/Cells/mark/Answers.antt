use Rattle.std.proofs.Common.{◌≡◌, ◌∙◌, ◌++◌, ◌∷◌, [], length, arith}
use Rattle.value_cells.proofs.Kept.{good-same, good-marked}
use Rattle.value_cells.proofs.Cells.mark.Goals as goal

pub invariant_of-self : goal.invariant_of-self
invariant_of-self c = good-same c.self.inside c.self.invariant c.set_mark.new.self c.set_mark.ensures.steps c.in_err-open.ensures.err

pub invariant_of-self-2 : goal.invariant_of-self-2
invariant_of-self-2 c =
    let a = c.self.inside in let long : c.len.result ≡ length a.cells.items = omega (arith, c.len.ensures, a.cells.ok.0) in
    good-marked a c.self.invariant c.set_mark.new.self c.set_mark.ensures.steps
    (c.in_ok-open.ensures.ok ∙ (λ i. a.history.marks.items ++ record { cells = long i; steps = length a.history.steps.items } ∷ []))
