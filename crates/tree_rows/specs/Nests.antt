-- Functions that run the nodes below a node, as values: what they ask for and what they leave.
use Rattle.std.specs.Prelude.{◌≡◌, ◌<◌, ◌≤◌, ℕ, List, Result, IfOk, IfErr, OnOk}
use Rattle.std.specs.declared.alloc.Global.{Global}
use denote.Ref.{Bor, MutBor}
use Rattle.js_tree.specs.declared.Expr.{Expr}
use Rattle.js_tree.specs.declared.Stmt.{Stmt}
use Rattle.js_tree.specs.Calls.{Code}
use Rattle.js_tree.specs.Rows.{expr_to, stmt_to}
use Rattle.value_cells.specs.declared.Value.{Value}
use Rattle.value_cells.specs.Needs.{needs}
use Rattle.run_host.specs.declared.Exit.{Exit}
use Rattle.run_host.specs.declared.Flow.{Flow}
use Rattle.run_host.specs.declared.Here.{Here}
use Rattle.run_host.specs.Moment.{Chain, Moment, cells}
use Rattle.run_host.specs.Told.{told_value, told_flow, here_in, here_needs, flow_needs, exit_needs}
use Rattle.run_host.specs.Did.{Runs}
use Rattle.tree_rows.specs.declared.codes.Codes.{Codes}
use Rattle.tree_rows.specs.Codes.{table_in}

-- what a node leaves that was run as an expression
pub record Valued {κ : Chain} (table : List Code) (left : ℕ) (here : Here) (e : Expr) (r : Result Value Exit) (old new : Moment κ) : Type 0 where
  pub ran : Runs (λ nu. expr_to table left (here_in nu here) e) (λ nu. told_value nu r) old new
  pub more : cells old ≤ cells new
  pub exists : IfOk r (λ v. needs v ≤ cells new)
  pub thrown : IfErr r (λ x. exit_needs x ≤ cells new)
  pub paid : OnOk r (new.heap.left < old.heap.left)

-- and as a statement
pub record Flowed {κ : Chain} (table : List Code) (left : ℕ) (here : Here) (s : Stmt) (r : Result Flow Exit) (old new : Moment κ) : Type 0 where
  pub ran : Runs (λ nu. stmt_to table left (here_in nu here) s) (λ nu. told_flow nu r) old new
  pub more : cells old ≤ cells new
  pub exists : IfOk r (λ f. flow_needs f ≤ cells new)
  pub thrown : IfErr r (λ x. exit_needs x ≤ cells new)
  pub paid : OnOk r (new.heap.left < old.heap.left)

module _ {κ : Chain} (H : Type 0) (moment : H → Moment κ) (sound : H → Type 0) (table : List Code) (left : ℕ) where
  -- functions that run the nodes below, with so many more nodes open at most
  pub record Nests
      (pre : Global → Bor Codes → ℕ → MutBor H → Here → Bor Expr → Type 0)
      (post : Global → Bor Codes → ℕ → MutBor H → Here → Bor Expr → Result Value Exit → MutBor H → Type 0)
      (pre' : Global → Bor Codes → ℕ → MutBor H → Here → Bor Stmt → Type 0)
      (post' : Global → Bor Codes → ℕ → MutBor H → Here → Bor Stmt → Result Flow Exit → MutBor H → Type 0) : Type 0 where
    pub callable : (g : Global) (t : Bor Codes) (h : MutBor H) (here : Here) (e : Bor Expr) → table_in t.now ≡ table → sound h.now → here_needs here ≤ cells (moment h.now) → pre g t left h here e
    pub runs : (g : Global) (t : Bor Codes) (h i : MutBor H) (here : Here) (e : Bor Expr) (r : Result Value Exit) → table_in t.now ≡ table → sound h.now → here_needs here ≤ cells (moment h.now)
        → post g t left h here e r i → Valued table left here e.now r (moment h.now) (moment i.now)
    pub stays : (g : Global) (t : Bor Codes) (h i : MutBor H) (here : Here) (e : Bor Expr) (r : Result Value Exit) → table_in t.now ≡ table → sound h.now → here_needs here ≤ cells (moment h.now)
        → post g t left h here e r i → sound i.now
    pub callable' : (g : Global) (t : Bor Codes) (h : MutBor H) (here : Here) (s : Bor Stmt) → table_in t.now ≡ table → sound h.now → here_needs here ≤ cells (moment h.now) → pre' g t left h here s
    pub runs' : (g : Global) (t : Bor Codes) (h i : MutBor H) (here : Here) (s : Bor Stmt) (r : Result Flow Exit) → table_in t.now ≡ table → sound h.now → here_needs here ≤ cells (moment h.now)
        → post' g t left h here s r i → Flowed table left here s.now r (moment h.now) (moment i.now)
    pub stays' : (g : Global) (t : Bor Codes) (h i : MutBor H) (here : Here) (s : Bor Stmt) (r : Result Flow Exit) → table_in t.now ≡ table → sound h.now → here_needs here ≤ cells (moment h.now)
        → post' g t left h here s r i → sound i.now
