use Rattle.std.proofs.Common.{◌≡◌, true, false, refl, ap, sym, ◌∙◌, subst, ℕ, ◌+◌, ◌<◌, ◌≤◌, length, arith, Some, None, option_map, OnOk, OnErr}
use Rattle.turk_base.specs.Cells.{look, put, remove}
use Rattle.turk_base.specs.State.{change}
use Rattle.turk_base.specs.Steps.{give, step}
use Rattle.std.specs.Map.{set_value, remove_entry}
use Rattle.value_cells.specs.Needs.{needs}
use Rattle.value_cells.specs.Held.{names_of, own, props_at, key_eq}
use Rattle.value_cells.specs.Seen.{val_in}
use Rattle.value_cells.specs.Does.{Says, Fails, told}
use Rattle.value_cells.proofs.Lists.{count-with}
use Rattle.run_heap.specs.Core.{Core, count, names_in, Rests}
use Rattle.run_heap.specs.Works.{Works}
use Rattle.run_heap.specs.Stored.{core_of}
use Rattle.run_heap.proofs.Turn.{Keeps, works_fails, fails_exit, keeps_same, core}
use Rattle.run_heap.proofs.Whole.{core_kept}
use Rattle.run_heap.proofs.Turn.{err_exit}
use Rattle.turk_base.specs.Steps.{drop_it}
use Rattle.run_heap.proofs.Accesses_facts.{drop_err, drop_ok}
use Rattle.run_heap.proofs.RunHeap.take_out.Goals as goal

pub returns-in_err-drop_key-clause-did : goal.returns-in_err-drop_key-clause-did
returns-in_err-drop_key-clause-did c =
    err_exit (λ nu. drop_it (nu c.args.cell) c.args.key.now) (λ nu b. b) c.from_residual.result c.in_err-drop_key.field-0.0 c.args.self.now c.drop_key.new.self c.from_residual.ensures.1
    (drop_err c.args.cell c.args.key.now c.in_err-drop_key.field-0.0 c.args.self.now c.drop_key.new.self c.in_err-drop_key.ensures.did)

pub returns-clause-did : goal.returns-clause-did
returns-clause-did c = drop_ok c.args.cell c.args.key.now c.args.self.now c.drop_key.new.self c.in_ok-drop_key.ensures.did
