-- Lists of statements.
use Rattle.std.specs.Prelude.{Ok}
use Rattle.std.proofs.Common.{◌≡◌, ◌≢◌, ◌≤◌, ◌<◌, ◌+◌, ◌∙◌, ℕ, List, length, get_or, drop, refl, sym, ap, subst, add-one, drop-cons}
use Rattle.std.proofs.Math.ListN.{drop_of_length-le}
use Rattle.js_tree.specs.declared.Stmt.{Stmt}
use Rattle.js_tree.specs.declared.Expr.{Expr}
use Rattle.js_tree.specs.Statements.{continued}
use Rattle.js_tree.specs.Pieces.{Here}
use Rattle.js_tree.specs.Calls.{Code, list}
use Rattle.turk_base.specs.Prog.{Prog, Done, Then}
use Rattle.value_cells.specs.Seen.{Naming}
use Rattle.run_laws.proofs.Sequel.{NotNormal}
use Rattle.run_host.specs.declared.Exit.{Exit}
use Rattle.run_host.specs.declared.Flow.{Flow}
use Rattle.run_host.specs.declared.Flow.TheVariants as flow
use Rattle.run_host.specs.Moment.{Chain, Moment}
use Rattle.run_host.specs.Told.{told_exit, told_flow, flow_in}
use Rattle.run_host.specs.Did.{Runs}
use Rattle.run_host.specs.Steps.{Onward}
use Rattle.run_host.proofs.Sequence.{then_on, then_out, ends_with, onward_then}
use Rattle.run_host.proofs.Exits.{first_out}

-- a program is another's equal
pub onward_eq : {κ : Chain} {f g : Naming → Prog} {m : Moment κ} → ((nu : Naming) → f nu ≡ g nu) → Onward f g m m
onward_eq {κ} {f} {g} {m} e = record { goes = λ t last r. subst (λ h. Runs h t m last) (λ i nu. sym (e nu) i) r }

-- a statement that did not end normally
pub not_normal : (nu : Naming) (f : Flow) → f ≢ flow.Normal → NotNormal (flow_in nu f)
not_normal nu flow.Normal n = absurd (n refl)
not_normal nu flow.Break n = tt
not_normal nu flow.Continue n = tt
not_normal nu (flow.Return v) n = tt

-- a loop goes on where its body ends with `continue`, and passes on any other end
pub passes_on : (table : List Code) (expr : Here → Expr → Prog) (stmt : Here → Stmt → Prog) (nu : Naming) (f : Flow) → f ≢ flow.Continue → continued table expr stmt (flow_in nu f) ≡ Done (flow_in nu f)
passes_on table expr stmt nu flow.Normal n = refl
passes_on table expr stmt nu flow.Break n = refl
passes_on table expr stmt nu flow.Continue n = absurd (n refl)
passes_on table expr stmt nu (flow.Return v) n = refl

-- Statements from the place i on, in a frame of the code.
module _ (table : List Code) (stmt : Here → Stmt → Prog) (here : Naming → Here) (all : List Stmt) (i : ℕ) where
  abbrev pub from_here : Naming → Prog
  from_here nu = list table stmt (here nu) (drop i all)

  abbrev pub after_next : Naming → Prog
  after_next nu = list table stmt (here nu) (drop (i + 1) all)

  cons_at : (s : Stmt) → i < length all → s ≡ get_or all i s → (nu : Naming) → from_here nu ≡ Then (stmt (here nu) s) (λ _. after_next nu)
  cons_at s h e nu = ap (list table stmt (here nu)) (drop-cons all i s h) ∙ (λ j. Then (stmt (here nu) (sym e j)) (λ _. list table stmt (here nu) (drop (sym (add-one i) j) all)))

  -- the next statement, and what is left after it
  pub list_first : {κ : Chain} → (s : Stmt) {m : Moment κ} → i < length all → s ≡ get_or all i s → Onward from_here (λ nu. Then (stmt (here nu) s) (λ _. after_next nu)) m m
  list_first s h e = onward_eq (cons_at s h e)

  -- it ended normally
  pub list_next : {κ : Chain} → (s : Stmt) (f : Flow) {a b c : Moment κ} {start : Naming → Prog} → i < length all → s ≡ get_or all i s → f ≡ flow.Normal → Onward start from_here a b →
      Runs (λ nu. stmt (here nu) s) (λ nu. told_flow nu (Ok f)) b c → Onward start after_next a c
  list_next s f {a} {b} {c} {start} h e n rest ran =
      onward_then rest (onward_then (list_first s h e) (record { goes = λ t last r. then_on (λ nu _. after_next nu) (subst (λ x. Runs (λ nu. stmt (here nu) s) (λ nu. told_flow nu (Ok x)) b c) n ran) r }))

  -- it ended otherwise, or it was left
  pub list_ends : {κ : Chain} → (s : Stmt) (f : Flow) {a b c : Moment κ} {start : Naming → Prog} → i < length all → s ≡ get_or all i s → f ≢ flow.Normal → Onward start from_here a b →
      Runs (λ nu. stmt (here nu) s) (λ nu. told_flow nu (Ok f)) b c → Runs start (λ nu. told_flow nu (Ok f)) a c
  list_ends s f {c = c} h e n rest ran = (onward_then rest (list_first s h e)).goes (λ nu. told_flow nu (Ok f)) c (then_out (λ nu _. after_next nu) (λ nu. not_normal nu f n) ran)

  pub list_out : {κ : Chain} → (s : Stmt) (x : Exit) {a b c : Moment κ} {start : Naming → Prog} → i < length all → s ≡ get_or all i s → Onward start from_here a b →
      Runs (λ nu. stmt (here nu) s) (λ nu. told_exit nu x) b c → Runs start (λ nu. told_exit nu x) a c
  list_out s x {c = c} h e rest ran = (onward_then rest (list_first s h e)).goes (λ nu. told_exit nu x) c (first_out (λ nu _. after_next nu) x ran)

  -- nothing is left
  pub list_over : {κ : Chain} {a b : Moment κ} {start : Naming → Prog} → length all ≤ i → Onward start from_here a b → Runs start (λ nu. told_flow nu (Ok flow.Normal)) a b
  list_over {b = b} h rest = (onward_then rest (onward_eq (λ nu. ap (list table stmt (here nu)) (drop_of_length-le all h)))).goes (λ nu. told_flow nu (Ok flow.Normal)) b ends_with
