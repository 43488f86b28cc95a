use Rattle.call_rows.proofs.Opened.{local_of, more_cells}
use Rattle.js_tree.specs.Calls.{call_value}
use Rattle.js_tree.specs.Rows.{stmt_to}
use Rattle.run_host.proofs.Exits.{value_exit}
use Rattle.std.proofs.Common.{[], ap}
use Rattle.std.specs.Prelude.{Ok}
use Rattle.tree_rows.specs.Codes.{table_in}
use Rattle.turk_base.specs.Names.{Name}
use Rattle.turk_base.specs.Prog.{Prog}
use Rattle.turk_base.specs.Values.{Object, Undefined}
use Rattle.call_rows.proofs.scopes.call_once.Goals as goal

pub returns-in_err-value-clause-ran : goal.returns-in_err-value-clause-ran
returns-in_err-value-clause-ran g c = let t = table_in c.args.codes.now in let s = stmt_to t c.args.below.now.left in let body : Name → Prog = λ f. call_value t s (Object f) Undefined [] in value_exit _ _ c.from_residual.ensures.1 (c.in_err-value.ensures.out (λ nu. body (nu c.args.f)))

pub returns-in-Some-clause-ran : goal.returns-in-Some-clause-ran
returns-in-Some-clause-ran g c = let t = table_in c.args.codes.now in let s = stmt_to t c.args.below.now.left in let body : Name → Prog = λ f. call_value t s (Object f) Undefined [] in (rw c.in-Some.is at c.in_ok-value.ensures.kept) (λ nu. body (nu c.args.f))

pub returns-in-None-clause-ran : goal.returns-in-None-clause-ran
returns-in-None-clause-ran g c = let t = table_in c.args.codes.now in let s = stmt_to t c.args.below.now.left in let body : Name → Prog = λ f. call_value t s (Object f) Undefined [] in c.end_once.ensures.did (λ nu. body (nu c.args.f)) (g.H.Host.moment c.args.host.now) (g.H.Host.moment c.open_once.new.self) (local_of _ c.args.f body c.requires.f) (c.in_ok-value.ensures.opened (ap Ok c.in-None.is)) c.call_cell-ended.ensures.ran

pub returns-in-None-clause-more : goal.returns-in-None-clause-more
returns-in-None-clause-more g c = let t = table_in c.args.codes.now in let s = stmt_to t c.args.below.now.left in let body : Name → Prog = λ f. call_value t s (Object f) Undefined [] in more_cells (c.end_once.ensures.did (λ nu. body (nu c.args.f)) (g.H.Host.moment c.args.host.now) (g.H.Host.moment c.open_once.new.self) (local_of _ c.args.f body c.requires.f) (c.in_ok-value.ensures.opened (ap Ok c.in-None.is)) c.call_cell-ended.ensures.ran)
