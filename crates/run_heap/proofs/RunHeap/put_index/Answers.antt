use Rattle.std.proofs.Common.{◌≡◌, true, subst}
use Rattle.turk_base.specs.Cells.{put, index}
use Rattle.turk_base.specs.State.{change}
use Rattle.turk_base.specs.Steps.{give, step, put_element}
use Rattle.value_cells.specs.Seen.{Naming, val_in}
use Rattle.value_cells.specs.Does.{told}
use Rattle.run_heap.specs.Works.{Works}
use Rattle.run_heap.proofs.Index_keys.{index_small}
use Rattle.run_heap.proofs.Putting.{index_set, index_out}
use Rattle.run_heap.proofs.Turn.{err_exit}
use Rattle.run_heap.proofs.RunHeap.put_index.Goals as goal

pub returns-in_err-set-clause-did : goal.returns-in_err-set-clause-did
returns-in_err-set-clause-did c =
    let x = c.in_err-set.field-0.0 in
    err_exit (λ (nu : Naming). put_element (nu c.args.cell) c.args.key.now (val_in nu c.args.value) (index c.args.at)) (λ nu u. u) c.from_residual.result x c.args.self.now c.set.new.self c.from_residual.ensures.1
    (index_out c.args.cell c.args.key.now c.args.value c.args.at x c.args.self.now c.set.new.self c.in_err-set.ensures.did)

pub grow-requires-clause-small : goal.grow-requires-clause-small
grow-requires-clause-small c = index_small c.args.key.now c.args.at c.requires.class

pub returns-clause-did : goal.returns-clause-did
returns-clause-did c =
    index_set c.args.cell c.args.key.now c.args.value c.args.at (λ nu. told (λ u. u) c.grow.result) c.args.self.now c.set.new.self c.grow.new.self c.in_ok-set.ensures.did c.grow.ensures.did
