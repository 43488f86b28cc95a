-- The names of a `var`, in order.
use Rattle.std.specs.Prelude.{Ok}
use Rattle.std.proofs.Common.{◌≡◌, ◌≤◌, ◌<◌, ◌+◌, ◌∙◌, ℕ, List, length, get_or, drop, [], ◌∷◌, refl, sym, ap, add-one, drop-cons}
use Rattle.std.proofs.Math.ListN.{drop_of_length-le}
use Rattle.js_tree.specs.declared.Stmt.{Stmt}
use Rattle.js_tree.specs.declared.Expr.{Expr}
use Rattle.js_tree.specs.declared.Variable.{Variable, out-Variable}
use Rattle.js_tree.specs.Statements.{variable_row, var_row}
use Rattle.js_tree.specs.Pieces.{Here}
use Rattle.js_tree.specs.Calls.{Code}
use Rattle.turk_base.specs.Prog.{Prog, nothing}
use Rattle.value_cells.specs.Seen.{Naming}
use Rattle.run_host.specs.declared.Exit.{Exit}
use Rattle.run_host.specs.declared.Flow.TheVariants as flow
use Rattle.run_host.specs.Moment.{Chain, Moment}
use Rattle.run_host.specs.Told.{told_exit, told_flow}
use Rattle.run_host.specs.Did.{Runs}
use Rattle.run_host.specs.Steps.{Onward, Gives, Leaves}
use Rattle.run_host.proofs.Sequence.{ends_with, onward_then}
use Rattle.tree_rows.proofs.Lists.{onward_eq}

module _ (table : List Code) (expr : Here → Expr → Prog) (stmt : Here → Stmt → Prog) (here : Naming → Here) (all : List Variable) (i : ℕ) where
  abbrev pub vars_from : Naming → Prog
  vars_from nu = var_row table expr stmt (here nu) (drop i all)

  abbrev pub vars_after : Naming → Prog
  vars_after nu = var_row table expr stmt (here nu) (drop (i + 1) all)

  abbrev pub one_var : Variable → Naming → (Unit {0} → Prog) → Prog
  one_var x nu go = variable_row table expr stmt (here nu) (out-Variable x).named (out-Variable x).value go

  first_var : (x : Variable) (xs : List Variable) (nu : Naming) → var_row table expr stmt (here nu) (x ∷ xs) ≡ one_var x nu (λ _. var_row table expr stmt (here nu) xs)
  unfolding var_row
  first_var x xs nu = refl

  var_at : (x : Variable) → i < length all → x ≡ get_or all i x → (nu : Naming) → vars_from nu ≡ one_var x nu (λ _. vars_after nu)
  var_at x h e nu = ap (var_row table expr stmt (here nu)) (drop-cons all i x h) ∙ first_var (get_or all i x) _ nu ∙ (λ j. one_var (sym e j) nu (λ _. var_row table expr stmt (here nu) (drop (sym (add-one i) j) all)))

  pub vars_next : {κ : Chain} → (x : Variable) {a b c : Moment κ} {start : Naming → Prog} → i < length all → x ≡ get_or all i x → Onward start vars_from a b → Gives (one_var x) (λ nu. tt) b c → Onward start vars_after a c
  vars_next x h e rest s = onward_then rest (onward_then (onward_eq (var_at x h e)) (s.goes (λ nu _. vars_after nu)))

  pub vars_out : {κ : Chain} → (x : Variable) (y : Exit) {a b c : Moment κ} {start : Naming → Prog} → i < length all → x ≡ get_or all i x → Onward start vars_from a b → Leaves (one_var x) y b c → Runs start (λ nu. told_exit nu y) a c
  vars_out x y {c = c} h e rest s = (onward_then rest (onward_eq (var_at x h e))).goes (λ nu. told_exit nu y) c (s.ends (λ nu _. vars_after nu))

  no_vars : (nu : Naming) → var_row table expr stmt (here nu) [] ≡ nothing
  unfolding var_row
  no_vars nu = refl

  pub vars_over : {κ : Chain} {a b : Moment κ} {start : Naming → Prog} → length all ≤ i → Onward start vars_from a b → Runs start (λ nu. told_flow nu (Ok flow.Normal)) a b
  vars_over {b = b} h rest = (onward_then rest (onward_eq (λ nu. ap (var_row table expr stmt (here nu)) (drop_of_length-le all h) ∙ no_vars nu))).goes (λ nu. told_flow nu (Ok flow.Normal)) b ends_with
