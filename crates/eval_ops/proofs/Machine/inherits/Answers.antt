use Rattle.std.proofs.Common.{◌<◌, sym, subst}
use Rattle.turk_base.specs.Prog.{Inherits}
use Rattle.value_cells.specs.Seen.{Naming}
use Rattle.value_cells.specs.Does.{Does, Says}
use Rattle.eval_ops.specs.Run.{Run, seen_of, count}
use Rattle.eval_ops.specs.Stored.{run_of}
use Rattle.eval_ops.proofs.Prototypes.{inherits_does}
use Rattle.eval_ops.proofs.Machine.inherits.Goals as goal

pub returns : goal.returns
returns c =
    let m = run_of c.self.inside in
    record {
      did = subst (λ (s : Run). Does (λ (nu : Naming). Inherits (nu c.args.cell) (nu c.args.from)) (λ nu. Says c.stands_above.result) (seen_of s) (seen_of s)) c.self.view_is
          (inherits_does m c.known.ensures.cells c.args.cell c.args.from (subst (λ (s : Run). c.args.cell < count s) (sym c.self.view_is) c.requires.cell) c.stands_above.result c.stands_above.ensures);
    }
