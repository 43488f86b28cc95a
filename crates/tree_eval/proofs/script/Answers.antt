use Rattle.host_steps.proofs.Made.{runs_as}
use Rattle.js_tree.specs.Calls.{enter, list}
use Rattle.js_tree.specs.Rows.{program, stmt_to}
use Rattle.js_tree.specs.Trees.{statements_of}
use Rattle.run_host.proofs.Exits.{flow_exit}
use Rattle.run_host.proofs.Fits.{runs_left, runs_on}
use Rattle.run_host.specs.Told.{here_in}
use Rattle.std.proofs.Common.{ap, sym, ◌∙◌, None}
use Rattle.std.specs.Prelude.{[]}
use Rattle.tree_eval.proofs.Open.{valued, flowed}
use Rattle.tree_rows.specs.Codes.{table_in}
use Rattle.turk_base.specs.Names.{Name}
use Rattle.turk_base.specs.Prog.{Prog}
use Rattle.turk_base.specs.Values.{Undefined}
use Rattle.value_cells.specs.Seen.{Naming}
use Rattle.tree_eval.proofs.script.Goals as goal

pub enter-requires-clause-hoisted : goal.enter-requires-clause-hoisted
enter-requires-clause-hoisted g c = c.as_slice.ensures.value ∙ c.args.script.now.hoisted

pub list-requires-clause-below : goal.list-requires-clause-below
list-requires-clause-below g c = let all = table_in c.args.codes.now in record {
  callable = λ a t h here e same sound there. (sound, there);
  runs = λ a t h i here e r same sound there done. let d = done.2 in valued all (table_in t.now) same 800 here (g.H.Host.moment h.now) (g.H.Host.moment i.now) e.now r d.0 d.1.0 d.1.1.0 d.1.1.1.0 d.1.1.1.1.0;
  stays = λ a t h i here e r same sound there done. done.2.1.1.1.1.1;
  callable' = λ a t h here s same sound there. (sound, there);
  runs' = λ a t h i here s r same sound there done. let d = done.2 in flowed all (table_in t.now) same 800 here (g.H.Host.moment h.now) (g.H.Host.moment i.now) s.now r d.0 d.1.0 d.1.1.0 d.1.1.1.0 d.1.1.1.1.0;
  stays' = λ a t h i here s r same sound there done. done.2.1.1.1.1.1;
}

pub returns-in_err-frame-clause-ran : goal.returns-in_err-frame-clause-ran
unfolding program
returns-in_err-frame-clause-ran g c = let t = table_in c.args.codes.now in let b = c.args.script.now.body.now in
    let first : Naming → Name → Prog = λ nu f. enter f [] b (λ _. list t (stmt_to t 800) (record { frame = f; this = Undefined }) (statements_of b)) in
    flow_exit _ _ c.from_residual.ensures.1 (runs_left first c.in_err-frame.ensures.did)

pub returns-in_err-enter-clause-ran : goal.returns-in_err-enter-clause-ran
unfolding program
returns-in_err-enter-clause-ran g c = let t = table_in c.args.codes.now in let b = c.args.script.now.body.now in
    let first : Naming → Name → Prog = λ nu f. enter f [] b (λ _. list t (stmt_to t 800) (record { frame = f; this = Undefined }) (statements_of b)) in
    let f = c.in_ok-frame.frame in
    let second : Naming → Unit {0} → Prog = λ nu _. list t (stmt_to t 800) (record { frame = nu f; this = Undefined }) (statements_of b) in
    flow_exit _ _ c.from_residual-in_err-enter.ensures.1 (runs_on first c.in_ok-frame.ensures.did (runs_left second c.in_err-enter.ensures.did))

pub returns-clause-ran : goal.returns-clause-ran
unfolding program
returns-clause-ran g c = let t = table_in c.args.codes.now in let b = c.args.script.now.body.now in
    let first : Naming → Name → Prog = λ nu f. enter f [] b (λ _. list t (stmt_to t 800) (record { frame = f; this = Undefined }) (statements_of b)) in
    let f = c.in_ok-frame.frame in
    let second : Naming → Unit {0} → Prog = λ nu _. list t (stmt_to t 800) (record { frame = nu f; this = Undefined }) (statements_of b) in
    runs_on first c.in_ok-frame.ensures.did (runs_on second c.in_ok-enter.ensures.did (runs_as (λ nu. ap (list t (stmt_to t 800) (here_in nu (record { frame = f; this = None }))) (sym c.statements.ensures)) c.list.ensures.ran))
