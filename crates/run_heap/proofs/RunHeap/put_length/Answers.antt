use Rattle.std.proofs.Common.{◌≡◌, true, ap, sym, ◌∙◌, subst}
use Rattle.std.specs.Prelude.{ℤ, pos, Some, None}
use Rattle.turk_base.specs.Cells.{put, length_key}
use Rattle.turk_base.specs.Values as model
use Rattle.turk_base.specs.State.{change}
use Rattle.turk_base.specs.Steps.{give, step, set_length, natural}
use Rattle.value_cells.specs.Held.{Key}
use Rattle.value_cells.specs.Seen.{Naming}
use Rattle.value_cells.specs.Does.{told, told_stop}
use Rattle.run_heap.specs.Works.{Works}
use Rattle.run_heap.proofs.Index_keys.{length_is}
use Rattle.run_heap.proofs.Putting.{length_out_of_range, length_out, length_set}
use Rattle.run_heap.proofs.Turn.{err_exit}
use Rattle.run_heap.proofs.RunHeap.put_length.Goals as goal

pub returns-in_default-clause-did : goal.returns-in_default-clause-did
returns-in_default-clause-did c = length_out_of_range c.args.cell c.args.length c.args.self.now (sym c.length_in.ensures ∙ c.in_default.is)

pub returns-in_err-trim-clause-did : goal.returns-in_err-trim-clause-did
returns-in_err-trim-clause-did c =
    let n = c.in-Some.number in
    let x = c.in_err-trim.field-0.0 in
    let is = length_is c.args.length n (sym c.length_in.ensures ∙ c.in-Some.is) in
    err_exit (λ (nu : Naming). set_length (nu c.args.cell) (natural c.args.length)) (λ nu u. u) c.from_residual.result x c.args.self.now c.trim.new.self c.from_residual.ensures.1
    (subst (λ (z : ℤ). Works (λ nu. set_length (nu c.args.cell) (natural z)) (λ nu. told_stop x) c.args.self.now c.trim.new.self) (sym is.0) (length_out c.args.cell n x c.args.self.now c.trim.new.self is.1 c.in_err-trim.ensures.did))

pub returns-clause-did : goal.returns-clause-did
returns-clause-did c =
    let n = c.in-Some.number in
    let is = length_is c.args.length n (sym c.length_in.ensures ∙ c.in-Some.is) in
    let said = λ (nu : Naming). told (λ u. u) c.set.result in
    subst (λ (z : ℤ). Works (λ nu. set_length (nu c.args.cell) (natural z)) said c.args.self.now c.set.new.self) (sym is.0)
    (length_set c.args.cell n said c.args.self.now c.trim.new.self c.set.new.self is.1 c.in_ok-trim.ensures.did
    (subst (λ (k : Key). Works (λ nu. step (change true (nu c.args.cell) (put k (model.Number (pos n)))) give) said c.trim.new.self c.set.new.self) c.requires.key
    (subst (λ (z : ℤ). Works (λ nu. step (change true (nu c.args.cell) (put c.args.key.now (model.Number z))) give) said c.trim.new.self c.set.new.self) is.0 c.set.ensures.did)))
