-- A node pays first, and is refused where too many are open.
use Rattle.std.specs.Prelude.{Result, Ok, Err, IfOk, IfErr, OnOk}
use Rattle.std.proofs.Common.{◌≡◌, ◌≢◌, ◌<◌, ◌≤◌, subst, ◌-◌, ℕ, zero, suc, List, refl, arith}
use Rattle.js_tree.specs.declared.Expr.{Expr}
use Rattle.js_tree.specs.declared.Stmt.{Stmt}
use Rattle.js_tree.specs.Calls.{Code}
use Rattle.js_tree.specs.Pieces.{Here}
use Rattle.js_tree.specs.Rows.{expr_to, stmt_to, expr_row, stmt_row}
use Rattle.js_tree.specs.Trees.{expr_level, stmt_level}
use Rattle.turk_base.specs.Names.{root, cell}
use Rattle.turk_base.specs.Prog.{Pay, Prog, Ask, refuse}
use Rattle.turk_base.specs.Values.{TooDeep}
use Rattle.value_cells.specs.declared.Value.{Value}
use Rattle.value_cells.specs.Seen.{Naming}
use Rattle.run_host.specs.declared.Exit.{Exit}
use Rattle.run_host.specs.declared.Flow.{Flow}
use Rattle.run_host.specs.declared.Here.{Here as Spot}
use Rattle.value_cells.specs.Needs.{needs}
use Rattle.run_host.specs.Moment.{Chain, Moment, cells}
use Rattle.run_host.specs.Told.{told_value, told_flow, here_in, flow_needs, exit_needs}
use Rattle.run_host.specs.Did.{Runs}
use Rattle.tree_rows.specs.Nests.{Valued, Flowed}

-- what a node does once it has paid
abbrev pub expr_open : List Code → ℕ → Here → Expr → Prog
expr_open table zero here e = refuse TooDeep
expr_open table (suc left) here e = expr_row table (expr_to table left) (stmt_to table left) here (expr_level e)

abbrev pub stmt_open : List Code → ℕ → Here → Stmt → Prog
stmt_open table zero here s = refuse TooDeep
stmt_open table (suc left) here s = stmt_row table (expr_to table left) (stmt_to table left) here (stmt_level s)

pub expr_pays : (table : List Code) (left : ℕ) (here : Here) (e : Expr) → expr_to table left here e ≡ Ask (Pay 1) (λ _. expr_open table left here e)
unfolding expr_to
expr_pays table zero here e = refl
expr_pays table (suc left) here e = refl

pub stmt_pays : (table : List Code) (left : ℕ) (here : Here) (s : Stmt) → stmt_to table left here s ≡ Ask (Pay 1) (λ _. stmt_open table left here s)
unfolding stmt_to
stmt_pays table zero here s = refl
stmt_pays table (suc left) here s = refl

pub level_back : (left : ℕ) → left ≢ 0 → suc (left - 1) ≡ left
level_back zero n = absurd (n refl)
level_back (suc left) n = omega arith

-- no node wins fuel, so what was paid first is spent
pub value_paid : {κ : Chain} {g : Naming → Prog} (a : Moment κ) {b c : Moment κ} (r : Result Value Exit) → Runs g (λ nu. told_value nu r) b c → b.heap.left < a.heap.left → OnOk r (c.heap.left < a.heap.left)
value_paid a (Ok v) x l = let z = (x.within (λ i. cell root 0) tt).falls in omega (arith, z, l)
value_paid a (Err e) x l = tt

pub flow_paid : {κ : Chain} {g : Naming → Prog} (a : Moment κ) {b c : Moment κ} (r : Result Flow Exit) → Runs g (λ nu. told_flow nu r) b c → b.heap.left < a.heap.left → OnOk r (c.heap.left < a.heap.left)
flow_paid a (Ok f) x l = let z = (x.within (λ i. cell root 0) tt).falls in omega (arith, z, l)
flow_paid a (Err e) x l = tt

-- ---- what a node leaves, over a table that is another's equal

module _ {κ : Chain} (table other : List Code) (same : other ≡ table) (left : ℕ) (here : Spot) (old new : Moment κ) where
  pub valued : (e : Expr) (r : Result Value Exit) → Runs (λ nu. expr_to other left (here_in nu here) e) (λ nu. told_value nu r) old new → IfOk r (λ v. needs v ≤ cells new) → OnOk r (new.heap.left < old.heap.left)
      → cells old ≤ cells new → IfErr r (λ x. exit_needs x ≤ cells new) → Valued table left here e r old new
  valued e r ran exists paid more thrown = record { ran = subst (λ t. Runs (λ nu. expr_to t left (here_in nu here) e) (λ nu. told_value nu r) old new) same ran; more = more; exists = exists; thrown = thrown; paid = paid }

  pub flowed : (s : Stmt) (r : Result Flow Exit) → Runs (λ nu. stmt_to other left (here_in nu here) s) (λ nu. told_flow nu r) old new → IfOk r (λ f. flow_needs f ≤ cells new) → OnOk r (new.heap.left < old.heap.left)
      → cells old ≤ cells new → IfErr r (λ x. exit_needs x ≤ cells new) → Flowed table left here s r old new
  flowed s r ran exists paid more thrown = record { ran = subst (λ t. Runs (λ nu. stmt_to t left (here_in nu here) s) (λ nu. told_flow nu r) old new) same ran; more = more; exists = exists; thrown = thrown; paid = paid }
