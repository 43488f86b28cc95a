use Rattle.call_rows.proofs.Opened.{local_of, more_cells}
use Rattle.js_tree.specs.Calls.{call_value}
use Rattle.js_tree.specs.Rows.{stmt_to}
use Rattle.run_host.proofs.Exits.{value_exit}
use Rattle.std.proofs.Common.{[]}
use Rattle.tree_rows.specs.Codes.{table_in}
use Rattle.turk_base.specs.Names.{Name}
use Rattle.turk_base.specs.Prog.{Prog}
use Rattle.turk_base.specs.Values.{Object, Undefined}
use Rattle.call_rows.proofs.scopes.call_branch.Goals as goal

pub returns-in_err-open_fork-clause-ran : goal.returns-in_err-open_fork-clause-ran
returns-in_err-open_fork-clause-ran g c = let t = table_in c.args.codes.now in let s = stmt_to t c.args.below.now.left in let body : Name → Prog = λ f. call_value t s (Object f) Undefined [] in value_exit _ _ c.from_residual.ensures.1 (c.in_err-open_fork.ensures.out (λ nu. body (nu c.args.f)))

pub returns-in_err-end_fork-clause-ran : goal.returns-in_err-end_fork-clause-ran
returns-in_err-end_fork-clause-ran g c = let t = table_in c.args.codes.now in let s = stmt_to t c.args.below.now.left in let body : Name → Prog = λ f. call_value t s (Object f) Undefined [] in value_exit _ _ c.from_residual-in_err-end_fork.ensures.1 (c.in_err-end_fork.ensures.did (λ nu. body (nu c.args.f)) (g.H.Host.moment c.args.host.now) (g.H.Host.moment c.open_fork.new.self) (local_of _ c.args.f body c.requires.f) c.in_ok-open_fork.ensures.opened c.call_cell-ended.ensures.ran)

pub returns-in_err-end_fork-clause-more : goal.returns-in_err-end_fork-clause-more
returns-in_err-end_fork-clause-more g c = let t = table_in c.args.codes.now in let s = stmt_to t c.args.below.now.left in let body : Name → Prog = λ f. call_value t s (Object f) Undefined [] in more_cells (c.in_err-end_fork.ensures.did (λ nu. body (nu c.args.f)) (g.H.Host.moment c.args.host.now) (g.H.Host.moment c.open_fork.new.self) (local_of _ c.args.f body c.requires.f) c.in_ok-open_fork.ensures.opened c.call_cell-ended.ensures.ran)

pub returns-clause-ran : goal.returns-clause-ran
returns-clause-ran g c = let t = table_in c.args.codes.now in let s = stmt_to t c.args.below.now.left in let body : Name → Prog = λ f. call_value t s (Object f) Undefined [] in c.in_ok-end_fork.ensures.did (λ nu. body (nu c.args.f)) (g.H.Host.moment c.args.host.now) (g.H.Host.moment c.open_fork.new.self) (local_of _ c.args.f body c.requires.f) c.in_ok-open_fork.ensures.opened c.call_cell-ended.ensures.ran

pub returns-clause-more : goal.returns-clause-more
returns-clause-more g c = let t = table_in c.args.codes.now in let s = stmt_to t c.args.below.now.left in let body : Name → Prog = λ f. call_value t s (Object f) Undefined [] in more_cells (c.in_ok-end_fork.ensures.did (λ nu. body (nu c.args.f)) (g.H.Host.moment c.args.host.now) (g.H.Host.moment c.open_fork.new.self) (local_of _ c.args.f body c.requires.f) c.in_ok-open_fork.ensures.opened c.call_cell-ended.ensures.ran)
