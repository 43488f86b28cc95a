use Rattle.std.proofs.Common.{◌≡◌, ap, ◌∙◌, Bool, true, false}
use Rattle.turk_base.specs.Prog.{Prog, KindOf, ask}
use Rattle.turk_base.specs.Errors.{choose}
use Rattle.turk_base.specs.Names.{Name}
use Rattle.js_tree.specs.Pieces.{as_function, if_function}
use Rattle.value_cells.specs.Seen.{Naming, val_in}
use Rattle.run_host.proofs.Sequence.{leads_then, gives_on}
use Rattle.run_host.proofs.Fits.{leads_eq}
use Rattle.host_steps.proofs.Made.{onward_eq}
use Rattle.value_rows.proofs.Given.{no_function}
use Rattle.value_rows.proofs.sums.function_in.Goals as goal

pub returns-then-is_function-clause-some : goal.returns-then-is_function-clause-some
returns-then-is_function-clause-some g c = λ otherwise. let i = c.in-Object.cell in
    leads_then (leads_eq (λ nu go. ap (λ v. as_function (val_in nu v) otherwise go) c.in-Object.is))
    (leads_then (gives_on c.kind.ensures.did (λ nu kind go. if_function kind (go (nu i)) otherwise))
    (leads_eq (λ nu go. c.is_function.ensures nu (go (nu i)) otherwise ∙ ap (λ b. choose b (go (nu i)) otherwise) c.if-is_function.true)))

pub returns-else-is_function-clause-none : goal.returns-else-is_function-clause-none
returns-else-is_function-clause-none g c = λ e otherwise go. let i = c.in-Object.cell in
    (leads_then (leads_eq (λ nu go. ap (λ v. as_function (val_in nu v) otherwise go) c.in-Object.is))
    (leads_then (gives_on c.kind.ensures.did (λ nu kind go. if_function kind (go (nu i)) otherwise))
    (leads_eq (λ nu go. c.is_function.ensures nu (go (nu i)) otherwise ∙ ap (λ b. choose b (go (nu i)) otherwise) c.if-is_function.false)))).goes go

pub returns-in_default-clause-none : goal.returns-in_default-clause-none
returns-in_default-clause-none g c = λ e otherwise go. onward_eq (λ nu. no_function c.args.value.now c.in_default.not-Object nu otherwise (go nu))
