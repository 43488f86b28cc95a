-- Loops of statements: how a loop ends, and goes on.
use Rattle.std.specs.Prelude.{Ok}
use Rattle.std.proofs.Common.{◌≡◌, ◌≢◌, ◌<◌, refl, subst}
use Rattle.js_tree.specs.declared.Expr.{Expr}
use Rattle.js_tree.specs.declared.Stmt.{Stmt}
use Rattle.js_tree.specs.Pieces.{Here}
use Rattle.js_tree.specs.Calls.{Code}
use Rattle.js_tree.specs.Statements.{left_loop, looped}
use Rattle.turk_base.specs.Prog.{Prog, Done}
use Rattle.turk_base.specs.Values.{Undefined}
use Rattle.value_cells.specs.Seen.{Naming}
use Rattle.std.specs.Prelude.{List}
use Rattle.run_host.specs.declared.Exit.{Exit}
use Rattle.run_host.specs.declared.Flow.{Flow}
use Rattle.run_host.specs.declared.Flow.TheVariants as flow
use Rattle.run_host.specs.Moment.{Chain, Moment}
use Rattle.run_host.specs.Told.{told_exit, told_flow, flow_in}
use Rattle.run_host.specs.Did.{Runs}
use Rattle.run_host.proofs.Sequence.{exit_no_value}
use Rattle.run_host.proofs.Loops.{Rounds, loop_runs, turns_out, rounds_on}
use Rattle.run_host.proofs.Exits.{always_exit, always_done}
use Rattle.tree_rows.proofs.Lists.{not_normal}

-- a loop passes on how its turn ended, but for `break`
pub passed : (table : List Code) (expr : Here → Expr → Prog) (stmt : Here → Stmt → Prog) (nu : Naming) (f : Flow) → f ≢ flow.Break → left_loop table expr stmt (flow_in nu f) ≡ Done (flow_in nu f)
passed table expr stmt nu flow.Normal n = refl
passed table expr stmt nu flow.Break n = absurd (n refl)
passed table expr stmt nu flow.Continue n = refl
passed table expr stmt nu (flow.Return v) n = refl

module _ (table : List Code) (expr : Here → Expr → Prog) (stmt : Here → Stmt → Prog) (turn : Naming → Prog) where
  -- what a loop of this turn is
  abbrev pub loop_of : Naming → Prog
  loop_of nu = looped table expr stmt (turn nu)

  -- a turn ended by an exit
  pub loop_exit : {κ : Chain} {a b c : Moment κ} (x : Exit) → Rounds turn a b → Runs turn (λ nu. told_exit nu x) b c → Runs loop_of (λ nu. told_exit nu x) a c
  loop_exit {c = c} x rest ran = always_exit (λ nu. left_loop table expr stmt) x (λ nu v. refl) (loop_runs (rest.goes (λ nu. told_exit nu x) c (turns_out (λ nu. exit_no_value nu x) ran)))

  -- a turn ended with `break`
  pub loop_breaks : {κ : Chain} {a b c : Moment κ} (f : Flow) → f ≡ flow.Break → Rounds turn a b → Runs turn (λ nu. told_flow nu (Ok f)) b c → Runs loop_of (λ nu. told_flow nu (Ok flow.Normal)) a c
  loop_breaks {b = b} {c = c} f e rest ran =
      let last : Runs turn (λ nu. told_flow nu (Ok flow.Break)) b c = subst (λ f. Runs turn (λ nu. told_flow nu (Ok f)) b c) e ran in
      always_done (λ nu. left_loop table expr stmt) (λ nu. refl) (loop_runs (rest.goes (λ nu. told_flow nu (Ok flow.Break)) c (turns_out (λ nu. tt) last)))

  -- a turn ended otherwise than normally
  pub loop_leaves : {κ : Chain} {a b c : Moment κ} (f : Flow) → f ≢ flow.Normal → f ≢ flow.Break → Rounds turn a b → Runs turn (λ nu. told_flow nu (Ok f)) b c → Runs loop_of (λ nu. told_flow nu (Ok f)) a c
  loop_leaves {c = c} f n m rest ran =
      always_done (λ nu. left_loop table expr stmt) (λ nu. passed table expr stmt nu f m) (loop_runs (rest.goes (λ nu. told_flow nu (Ok f)) c (turns_out (λ nu. not_normal nu f n) ran)))

  -- a turn ended normally, and paid
  pub loop_goes : {κ : Chain} {a b c : Moment κ} (f : Flow) → f ≡ flow.Normal → Rounds turn a b → Runs turn (λ nu. told_flow nu (Ok f)) b c → c.heap.left < b.heap.left → Rounds turn a c
  loop_goes {b = b} {c = c} f e rest ran less = rounds_on {v = λ nu. Undefined} rest (subst (λ f. Runs turn (λ nu. told_flow nu (Ok f)) b c) e ran) less
