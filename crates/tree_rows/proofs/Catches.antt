-- A catch takes no end but a throw.
use Rattle.std.specs.Prelude.{List, Ok}
use Rattle.std.proofs.Common.{◌≡◌, refl}
use Rattle.js_tree.specs.declared.Catch.{Catch}
use Rattle.js_tree.specs.declared.Expr.{Expr}
use Rattle.js_tree.specs.declared.Stmt.{Stmt}
use Rattle.js_tree.specs.Calls.{Code}
use Rattle.js_tree.specs.Pieces.{Here}
use Rattle.js_tree.specs.Statements.{caught}
use Rattle.turk_base.specs.Prog.{Prog, Done, Always}
use Rattle.value_cells.specs.Seen.{Naming}
use Rattle.run_host.specs.declared.Flow.{Flow}
use Rattle.run_host.specs.declared.Flow.TheVariants as flow
use Rattle.run_host.specs.Moment.{Chain, Moment}
use Rattle.run_host.specs.Told.{told_flow, flow_in}
use Rattle.run_host.specs.Did.{Runs}
use Rattle.run_host.proofs.Exits.{always_done}

module _ (table : List Code) (expr : Here → Expr → Prog) (stmt : Here → Stmt → Prog) (here : Naming → Here) (c : Catch) where
  uncaught : (nu : Naming) (f : Flow) → caught table expr stmt (here nu) c (flow_in nu f) ≡ Done (flow_in nu f)
  uncaught nu flow.Normal = refl
  uncaught nu flow.Break = refl
  uncaught nu flow.Continue = refl
  uncaught nu (flow.Return v) = refl

  pub catch_passes : {κ : Chain} {g : Naming → Prog} {a b : Moment κ} (f : Flow) → Runs g (λ nu. told_flow nu (Ok f)) a b → Runs (λ nu. Always (g nu) (caught table expr stmt (here nu) c)) (λ nu. told_flow nu (Ok f)) a b
  catch_passes f x = always_done (λ nu. caught table expr stmt (here nu) c) (λ nu. uncaught nu f) x
