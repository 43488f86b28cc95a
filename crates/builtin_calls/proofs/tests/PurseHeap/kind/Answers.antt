use Rattle.std.proofs.Common.{subst, sym}
use Rattle.turk_base.specs.Prog.{KindOf}
use Rattle.value_cells.specs.Seen.{kind_in}
use Rattle.value_cells.specs.Does.{Does, Says}
use Rattle.builtin_calls.specs.Purse.{purse}
use Rattle.builtin_calls.proofs.Purse.{kind_told}
use Rattle.builtin_calls.proofs.tests.PurseHeap.kind.Goals as goal

pub returns-clause-did : goal.returns-clause-did
returns-clause-did c = let left = c.args.self.now.left in
    subst (λ k. Does (λ nu. KindOf (nu c.args._cell)) (λ nu. Says (kind_in nu k)) (purse left) (purse left)) (sym c.args.self.now.plain) (kind_told left c.args._cell)
