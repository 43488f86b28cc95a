use Rattle.std.proofs.Common.{◌≡◌, ap, sym, ◌∙◌, subst}
use Rattle.turk_base.specs.Names.{root, cell}
use Rattle.turk_base.specs.Conversions.{number_in}
use Rattle.turk_base.specs.Steps.{length_from}
use Rattle.value_cells.specs.Seen.{Naming, val_in}
use Rattle.value_cells.specs.Does.{told, told_stop}
use Rattle.run_heap.proofs.Putting.{from_ok, from_err}
use Rattle.run_heap.proofs.Turn.{err_exit}
use Rattle.run_heap.proofs.RunHeap.put_length_from.Goals as goal

pub returns-in_err-length-clause-did : goal.returns-in_err-length-clause-did
returns-in_err-length-clause-did c =
    let x = c.in_err-length.field-0.0 in
    err_exit (λ (nu : Naming). length_from (nu c.args.cell) (number_in (val_in nu c.args.value.now))) (λ nu u. u) c.from_residual.result x c.args.self.now c.args.self.now c.from_residual.ensures.1
    (from_err c.args.cell (λ nu. number_in (val_in nu c.args.value.now)) x c.args.self.now c.in_err-length.ensures (λ k. cell root k))

pub returns-clause-did : goal.returns-clause-did
returns-clause-did c =
    from_ok c.args.cell (λ nu. number_in (val_in nu c.args.value.now)) c.in_ok-length.length (λ nu. told (λ u. u) c.put_length.result) c.args.self.now c.put_length.new.self c.in_ok-length.ensures c.put_length.ensures.did
