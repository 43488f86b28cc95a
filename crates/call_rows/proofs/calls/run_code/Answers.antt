use Rattle.host_steps.proofs.Made.{runs_as}
use Rattle.js_tree.specs.Calls.{add_parameters, called, enter, list}
use Rattle.js_tree.specs.Rows.{stmt_to}
use Rattle.js_tree.specs.Trees.{statements_of}
use Rattle.run_host.proofs.Exits.{always_done, always_exit, value_exit}
use Rattle.run_host.proofs.Fits.{runs_left, runs_on}
use Rattle.run_host.specs.Told.{here_in, this_in}
use Rattle.std.proofs.Common.{ap, refl, sym, ◌∙◌}
use Rattle.std.specs.Prelude.{map}
use Rattle.tree_rows.specs.Codes.{table_in}
use Rattle.turk_base.specs.Names.{Name}
use Rattle.turk_base.specs.Prog.{Always, Prog}
use Rattle.value_cells.specs.Seen.{Naming, val_in}
use Rattle.call_rows.proofs.calls.run_code.Goals as goal

pub enter-requires-clause-hoisted : goal.enter-requires-clause-hoisted
enter-requires-clause-hoisted g c = c.as_slice.ensures.value ∙ c.args.code.now.hoisted

pub returns-in_err-frame-clause-ran : goal.returns-in_err-frame-clause-ran
returns-in_err-frame-clause-ran g c = let t = table_in c.args.codes.now in let s = stmt_to t c.args.below.now.left in let ps = c.args.code.now.parameters.now in let b = c.args.code.now.body.now in let body : Naming → Name → Prog = λ nu f. Always (list t s (record { frame = f; this = this_in nu c.args.this }) (statements_of b)) called in let first : Naming → Name → Prog = λ nu f. add_parameters f ps (map (val_in nu) c.args.arguments.now) (λ _. enter f ps b (λ _. body nu f)) in
    value_exit _ _ c.from_residual.ensures.1 (runs_left first c.in_err-frame.ensures.did)

pub returns-in_err-add_parameters-clause-ran : goal.returns-in_err-add_parameters-clause-ran
returns-in_err-add_parameters-clause-ran g c = let t = table_in c.args.codes.now in let s = stmt_to t c.args.below.now.left in let ps = c.args.code.now.parameters.now in let b = c.args.code.now.body.now in let body : Naming → Name → Prog = λ nu f. Always (list t s (record { frame = f; this = this_in nu c.args.this }) (statements_of b)) called in let first : Naming → Name → Prog = λ nu f. add_parameters f ps (map (val_in nu) c.args.arguments.now) (λ _. enter f ps b (λ _. body nu f)) in let f = c.in_ok-frame.frame in let second : Naming → Unit {0} → Prog = λ nu _. enter (nu f) ps b (λ _. body nu (nu f)) in
    value_exit _ _ c.from_residual-in_err-add_parameters.ensures.1 (runs_on first c.in_ok-frame.ensures.did (runs_left second c.in_err-add_parameters.ensures.did))

pub returns-in_err-enter-clause-ran : goal.returns-in_err-enter-clause-ran
returns-in_err-enter-clause-ran g c = let t = table_in c.args.codes.now in let s = stmt_to t c.args.below.now.left in let ps = c.args.code.now.parameters.now in let b = c.args.code.now.body.now in let body : Naming → Name → Prog = λ nu f. Always (list t s (record { frame = f; this = this_in nu c.args.this }) (statements_of b)) called in let first : Naming → Name → Prog = λ nu f. add_parameters f ps (map (val_in nu) c.args.arguments.now) (λ _. enter f ps b (λ _. body nu f)) in let f = c.in_ok-frame.frame in let second : Naming → Unit {0} → Prog = λ nu _. enter (nu f) ps b (λ _. body nu (nu f)) in
    value_exit _ _ c.from_residual-in_err-enter.ensures.1 (runs_on first c.in_ok-frame.ensures.did (runs_on second c.in_ok-add_parameters.ensures.did (runs_left (λ nu _. body nu (nu f)) c.in_err-enter.ensures.did)))

pub returns-in_err-flow-clause-ran : goal.returns-in_err-flow-clause-ran
returns-in_err-flow-clause-ran g c = let t = table_in c.args.codes.now in let s = stmt_to t c.args.below.now.left in let ps = c.args.code.now.parameters.now in let b = c.args.code.now.body.now in let body : Naming → Name → Prog = λ nu f. Always (list t s (record { frame = f; this = this_in nu c.args.this }) (statements_of b)) called in let first : Naming → Name → Prog = λ nu f. add_parameters f ps (map (val_in nu) c.args.arguments.now) (λ _. enter f ps b (λ _. body nu f)) in let f = c.in_ok-frame.frame in let second : Naming → Unit {0} → Prog = λ nu _. enter (nu f) ps b (λ _. body nu (nu f)) in
    value_exit _ _ c.from_residual-in_err-flow.ensures.1 (runs_on first c.in_ok-frame.ensures.did (runs_on second c.in_ok-add_parameters.ensures.did (runs_on (λ nu _. body nu (nu f)) c.in_ok-enter.ensures.did
    (always_exit (λ nu. called) _ (λ nu v. refl) (runs_as (λ nu. ap (list t s (here_in nu (record { frame = f; this = c.args.this }))) (sym c.statements.ensures)) c.in_err-flow.ensures.ran)))))

pub returns-clause-ran : goal.returns-clause-ran
returns-clause-ran g c = let t = table_in c.args.codes.now in let s = stmt_to t c.args.below.now.left in let ps = c.args.code.now.parameters.now in let b = c.args.code.now.body.now in let body : Naming → Name → Prog = λ nu f. Always (list t s (record { frame = f; this = this_in nu c.args.this }) (statements_of b)) called in let first : Naming → Name → Prog = λ nu f. add_parameters f ps (map (val_in nu) c.args.arguments.now) (λ _. enter f ps b (λ _. body nu f)) in let f = c.in_ok-frame.frame in let second : Naming → Unit {0} → Prog = λ nu _. enter (nu f) ps b (λ _. body nu (nu f)) in
    runs_on first c.in_ok-frame.ensures.did (runs_on second c.in_ok-add_parameters.ensures.did (runs_on (λ nu _. body nu (nu f)) c.in_ok-enter.ensures.did
    (always_done (λ nu. called) (λ nu. c.returned.ensures.value nu) (runs_as (λ nu. ap (list t s (here_in nu (record { frame = f; this = c.args.this }))) (sym c.statements.ensures)) c.in_ok-flow.ensures.ran))))
