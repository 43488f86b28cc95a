use Rattle.std.proofs.Common.{◌≡◌, true, false, refl, ap, sym, ◌∙◌, subst, ℕ, ◌+◌, ◌<◌, ◌≤◌, length, arith, Some, None, option_map, OnOk, OnErr}
use Rattle.turk_base.specs.Cells.{look, put, remove}
use Rattle.turk_base.specs.State.{change}
use Rattle.turk_base.specs.Steps.{give, step}
use Rattle.std.specs.Map.{set_value, remove_entry}
use Rattle.value_cells.specs.Needs.{needs}
use Rattle.value_cells.specs.Held.{names_of, own, props_at, key_eq}
use Rattle.value_cells.specs.Seen.{val_in}
use Rattle.value_cells.specs.Does.{Says, Fails, told}
use Rattle.value_cells.proofs.Lists.{count-with}
use Rattle.run_heap.specs.Core.{Core, count, names_in, Rests}
use Rattle.run_heap.specs.Works.{Works}
use Rattle.run_heap.specs.Stored.{core_of}
use Rattle.run_heap.proofs.Turn.{Keeps, works_fails, fails_exit, keeps_same, core}
use Rattle.run_heap.proofs.Whole.{core_kept}
use Rattle.turk_base.specs.Steps.{steps_of}
use Rattle.turk_base.specs.Prog.{ReadName}
use Rattle.run_heap.proofs.Turn.{err_exit}
use Rattle.run_heap.proofs.Accesses_facts.{read_err, read_ok}
use Rattle.run_heap.proofs.RunHeap.read_name.Goals as goal

pub returns-in_err-value-clause-did : goal.returns-in_err-value-clause-did
returns-in_err-value-clause-did c =
    err_exit (λ nu. steps_of (ReadName (nu c.args.frame) c.args.name.now)) val_in c.from_residual.result c.in_err-value.field-0.0 c.args.self.now c.look.new.self c.from_residual.ensures.1
    (read_err c.args.frame c.args.name.now c.in_err-value.field-0.0 c.args.self.now c.look.new.self c.in_err-value.ensures.did)

pub returns-clause-did : goal.returns-clause-did
returns-clause-did c =
    read_ok c.args.frame c.args.name.now c.in-Some.value c.args.self.now c.look.new.self
    (subst (λ o. Works (λ nu. step (change true (nu c.args.frame) (look c.args.name.now)) give) (λ nu. Says (option_map (val_in nu) o)) c.args.self.now c.look.new.self) c.in-Some.is c.in_ok-value.ensures.did)
